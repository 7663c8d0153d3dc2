use Rattle.std.proofs.Common.{◌≡◌, None, Option, List, map, sym, ap, ◌∙◌, rules}
use Rattle.std.specs.Prelude.{option_map}
use Rattle.toml.specs.Data.{Members}
use Rattle.toml.specs.View.{table_view}
use Rattle.com_tree.specs.declared.tree.TreeRow.{TreeRow}
use Rattle.com_net.specs.declared.fault.NetFault.{NetFault}
use Rattle.com_net.specs.declared.gather.Gathered.{Gathered}
use Rattle.com_net.specs.declared.places.TableAt.{TableAt}
use Rattle.com_net.specs.Places.{places}
use Rattle.com_net.specs.TreeFaults.{tree_rows}
use Rattle.com_net.specs.Description.{document_fault, told_tree, parts_of, IsRefusalBy}
use Rattle.com_net.specs.inner.Checks.{early_fault, late_fault}
use Rattle.com_net.specs.inner.Lists.{parts_from}
use Rattle.com_net.specs.inner.Seen.{seen, gathered_parts}
use Rattle.com_net.proofs.FaultOrder.{names_sound, passwords_sound, no_fault, refused_tree, none_told}
use Rattle.com_net.proofs.FaultlessNets.{parts_are_net}
use Rattle.com_net.proofs.Outlines.{is_outline-rows}
use Rattle.com_net.proofs.PartsLists.{gathered_all}
use Rattle.com_net.proofs.Refusing.{refused_by}
use Rattle.com_net.proofs.read.net_of.Goals as goal

-- the tables that a slice shows
shown : (items now : List TableAt) (document : Members) → now ≡ items → map seen items ≡ places document → map seen now ≡ places document
shown items now document is all = ap (map seen) is ∙ all

pub tree_of-requires-clause-names : goal.tree_of-requires-clause-names
tree_of-requires-clause-names c =
    let document = table_view c.args.document.now in
    let first = shown c.in_ok-places.places.items c.deref.result.now document c.deref.ensures.value c.in_ok-places.ensures in
    let early : early_fault (places document) ≡ None = ap early_fault (sym first) ∙ none_told _ c.in_ok-fault.field-0 _ c.in_ok-fault.ensures c.in_default.is in
    rw (shown c.in_ok-places.places.items c.deref-2.result.now document c.deref-2.ensures.value c.in_ok-places.ensures) (names_sound (places document) early)

pub tree_of-requires-clause-outline : goal.tree_of-requires-clause-outline
tree_of-requires-clause-outline c =
    let document = table_view c.args.document.now in
    rw (shown c.in_ok-places.places.items c.deref-2.result.now document c.deref-2.ensures.value c.in_ok-places.ensures) (is_outline-rows document)

pub returns-in_err-tree-clause-refused : goal.returns-in_err-tree-clause-refused
returns-in_err-tree-clause-refused c =
    let document = table_view c.args.document.now in
    let first = shown c.in_ok-places.places.items c.deref.result.now document c.deref.ensures.value c.in_ok-places.ensures in
    let second = shown c.in_ok-places.places.items c.deref-2.result.now document c.deref-2.ensures.value c.in_ok-places.ensures in
    let early : early_fault (places document) ≡ None = ap early_fault (sym first) ∙ none_told _ c.in_ok-fault.field-0 _ c.in_ok-fault.ensures c.in_default.is in
    let told : IsRefusalBy (told_tree (places document)) c.in_err-tree.field-0.0 = refused_by (told_tree (places document)) (told_tree (map seen c.deref-2.result.now)) c.in_err-tree.field-0.0 (ap told_tree (sym second)) c.in_err-tree.ensures.refused in
    let refused : IsRefusalBy (document_fault document) c.in_err-tree.field-0.0 = refused_tree document c.in_err-tree.field-0.0 early told in
    search rules

pub late_fault-requires : goal.late_fault-requires
late_fault-requires c =
    let document = table_view c.args.document.now in
    let first = shown c.in_ok-places.places.items c.deref.result.now document c.deref.ensures.value c.in_ok-places.ensures in
    let early : early_fault (places document) ≡ None = ap early_fault (sym first) ∙ none_told _ c.in_ok-fault.field-0 _ c.in_ok-fault.ensures c.in_default.is in
    rw (shown c.in_ok-places.places.items c.deref-3.result.now document c.deref-3.ensures.value c.in_ok-places.ensures) (names_sound (places document) early)

pub gather-requires-clause-names : goal.gather-requires-clause-names
gather-requires-clause-names c =
    let document = table_view c.args.document.now in
    let first = shown c.in_ok-places.places.items c.deref.result.now document c.deref.ensures.value c.in_ok-places.ensures in
    let early : early_fault (places document) ≡ None = ap early_fault (sym first) ∙ none_told _ c.in_ok-fault.field-0 _ c.in_ok-fault.ensures c.in_default.is in
    rw (shown c.in_ok-places.places.items c.deref-4.result.now document c.deref-4.ensures.value c.in_ok-places.ensures) (names_sound (places document) early)

pub gather-requires-clause-passwords : goal.gather-requires-clause-passwords
gather-requires-clause-passwords c =
    let document = table_view c.args.document.now in
    let items = c.in_ok-places.places.items in
    let first = shown items c.deref.result.now document c.deref.ensures.value c.in_ok-places.ensures in
    let third = shown items c.deref-3.result.now document c.deref-3.ensures.value c.in_ok-places.ensures in
    let early : early_fault (places document) ≡ None = ap early_fault (sym first) ∙ none_told _ c.in_ok-fault.field-0 _ c.in_ok-fault.ensures c.in_default.is in
    let late : late_fault c.in_ok-tree.tree (places document) document ≡ None = ap (λ tables. late_fault c.in_ok-tree.tree tables document) (sym third) ∙ none_told _ c.in_ok-fault-2.field-0 _ c.in_ok-fault-2.ensures c.in_default-2.is in
    rw (shown items c.deref-4.result.now document c.deref-4.ensures.value c.in_ok-places.ensures) (passwords_sound c.in_ok-tree.tree (places document) document early late)

-- a document that passed all that was looked for
record HasPassed (document : Members) (tree : List TreeRow) : Type 0 where
  early : early_fault (places document) ≡ None
  rows : tree ≡ tree_rows (places document)
  told : told_tree (places document) ≡ None
  late : late_fault tree (places document) document ≡ None

sound : (document : Members) (tree : List TreeRow) → HasPassed document tree → document_fault document ≡ None
sound document tree h = no_fault document h.early h.told (ap (λ rows. late_fault rows (places document) document) (sym h.rows) ∙ h.late)

passed : (document : Members) (items first second third : List TableAt) (tree : List TreeRow) (early late : Option NetFault) → first ≡ items → second ≡ items → third ≡ items → map seen items ≡ places document
    → option_map (λ (fault : NetFault). (fault.kind, fault.path)) early ≡ early_fault (map seen first) → early ≡ None → tree ≡ tree_rows (map seen second) → told_tree (map seen second) ≡ None
    → option_map (λ (fault : NetFault). (fault.kind, fault.path)) late ≡ late_fault tree (map seen third) document → late ≡ None → HasPassed document tree
passed document items first second third tree early late one two three all early_is early_none tree_is told_none late_is late_none = record {
  early = ap early_fault (sym (shown items first document one all)) ∙ none_told _ early _ early_is early_none;
  rows = tree_is ∙ ap tree_rows (shown items second document two all);
  told = ap told_tree (sym (shown items second document two all)) ∙ told_none;
  late = ap (λ tables. late_fault tree tables document) (sym (shown items third document three all)) ∙ none_told _ late _ late_is late_none;
}

-- what was gathered is what the document gives
all_parts : (document : Members) (items fourth : List TableAt) (tree : List TreeRow) (gathered : Gathered) → HasPassed document tree → fourth ≡ items → map seen items ≡ places document
    → gathered_parts tree gathered ≡ parts_from tree (map seen fourth) → gathered_parts tree gathered ≡ parts_of document
all_parts document items fourth tree gathered h is all given =
    given ∙ (ap (parts_from tree) (shown items fourth document is all) ∙ (ap (λ rows. parts_from rows (places document)) h.rows ∙ gathered_all document))

pub into_net-requires : goal.into_net-requires
into_net-requires c =
    let document = table_view c.args.document.now in
    let h = passed document c.in_ok-places.places.items c.deref.result.now c.deref-2.result.now c.deref-3.result.now c.in_ok-tree.tree c.in_ok-fault.field-0 c.in_ok-fault-2.field-0
    c.deref.ensures.value c.deref-2.ensures.value c.deref-3.ensures.value c.in_ok-places.ensures c.in_ok-fault.ensures c.in_default.is c.in_ok-tree.ensures.tree c.in_ok-tree.ensures.accepted c.in_ok-fault-2.ensures c.in_default-2.is in
    let all = all_parts document c.in_ok-places.places.items c.deref-4.result.now c.in_ok-tree.tree c.in_ok-gathered.gathered h c.deref-4.ensures.value c.in_ok-places.ensures c.in_ok-gathered.ensures in
    rw all (parts_are_net document (sound document c.in_ok-tree.tree h))

pub returns-clause-sound : goal.returns-clause-sound
returns-clause-sound c =
    let document = table_view c.args.document.now in
    let h = passed document c.in_ok-places.places.items c.deref.result.now c.deref-2.result.now c.deref-3.result.now c.in_ok-tree.tree c.in_ok-fault.field-0 c.in_ok-fault-2.field-0
    c.deref.ensures.value c.deref-2.ensures.value c.deref-3.ensures.value c.in_ok-places.ensures c.in_ok-fault.ensures c.in_default.is c.in_ok-tree.ensures.tree c.in_ok-tree.ensures.accepted c.in_ok-fault-2.ensures c.in_default-2.is in
    sound document c.in_ok-tree.tree h

pub returns-clause-net : goal.returns-clause-net
returns-clause-net c =
    let document = table_view c.args.document.now in
    let h = passed document c.in_ok-places.places.items c.deref.result.now c.deref-2.result.now c.deref-3.result.now c.in_ok-tree.tree c.in_ok-fault.field-0 c.in_ok-fault-2.field-0
    c.deref.ensures.value c.deref-2.ensures.value c.deref-3.ensures.value c.in_ok-places.ensures c.in_ok-fault.ensures c.in_default.is c.in_ok-tree.ensures.tree c.in_ok-tree.ensures.accepted c.in_ok-fault-2.ensures c.in_default-2.is in
    c.in_ok-net.ensures ∙ all_parts document c.in_ok-places.places.items c.deref-4.result.now c.in_ok-tree.tree c.in_ok-gathered.gathered h c.deref-4.ensures.value c.in_ok-places.ensures c.in_ok-gathered.ensures
