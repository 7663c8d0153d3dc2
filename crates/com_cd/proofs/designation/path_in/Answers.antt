use Rattle.std.proofs.Common.{◌≡◌, ◌∷◌, ◌++◌, [], List, ℕ, Some, true, take, drop, refl, ap, ◌∙◌, arith}
use Rattle.std.specs.List.{list_any}
use Rattle.std.proofs.lemmas.List.{length-append, length-take, length-drop}
use Rattle.std.proofs.lemmas.List.Elements.{All-nil, All-push}
use Rattle.com_text.specs.Name.{IsName, field_of, is_character}
use Rattle.com_cd.specs.Designation.{Designates}
use Rattle.com_cd.proofs.Paths.{only_path, first_name, no_path, longer_path, whole_path}
use Rattle.com_cd.proofs.designation.path_in.Goals as goal

pub returns-in_err-name_in : goal.returns-in_err-name_in
returns-in_err-name_in c path =
    let none : (name : List ℕ) → IsName name → take 12 (take 48 c.args.area.now) ≡ field_of name → ⊥ =
    λ name h e.
    let field : c.in_ok-queue.queue.now ≡ field_of name = cc (c.in_ok-queue.ensures.cases.0) in
    let found = (c.in_err-name_in.ensures name).1 (h, field) in
    cc in
    (λ e. cc, λ d. absurd (first_name c.args.area.now path d none))

pub loop-below-init : goal.loop-below-init
loop-below-init c =
    let name = c.in_ok-name_in.field-0 in
    let read = (c.in_ok-name_in.ensures name).0 refl in
    let whole = take 48 c.args.area.now in
    let field : take 12 whole ≡ field_of name = cc (c.in_ok-queue.ensures.cases.0) in
    let below : c.in_ok-queue.below.now ≡ drop 12 whole = cc (c.in_ok-queue.ensures.cases.1) in
    let path : c.new-path.result ≡ name ∷ [] = cc (c.new-path.ensures) in
    rw (path, below) record {
      some = omega arith;
      names = All-push IsName [] name (All-nil IsName) read.0;
      room = omega (arith, length-drop 12 whole, length-take 48 c.args.area.now, c.told-area);
      fields = longer_path [] whole name field;
    }

pub returns-in_err-name_in-2 : goal.returns-in_err-name_in-2
returns-in_err-name_in-2 c path =
    let below = c.loop-below.below.now in
    let none : (name : List ℕ) → IsName name → take 12 below ≡ field_of name → ⊥ =
    λ name h e.
    let field : c.in_ok-level.level.now ≡ field_of name = cc (c.in_ok-level.ensures.cases.0) in
    let found = (c.in_err-name_in-2.ensures name).1 (h, field) in
    cc in
    let some : list_any is_character below ≡ true = cc in
    let i = c.loop-below.invariant in
    (λ e. cc, λ d. absurd (no_path c.args.area.now below c.loop-below.path path i.names i.fields some none d))

pub loop-below-preserved : goal.loop-below-preserved
loop-below-preserved c =
    let name = c.in_ok-name_in-2.field-0 in
    let read = (c.in_ok-name_in-2.ensures name).0 refl in
    let field : take 12 c.loop-below.below.now ≡ field_of name = cc (c.in_ok-level.ensures.cases.0) in
    let rest : c.in_ok-level.rest.now ≡ drop 12 c.loop-below.below.now = cc (c.in_ok-level.ensures.cases.1) in
    let path : c.in_ok-path.path ≡ c.loop-below.path ++ name ∷ [] = cc (c.in_ok-path.ensures.longer) in
    let longer = length-append c.loop-below.path (name ∷ []) in
    rw (path, rest) record {
      some = omega (arith, longer);
      names = All-push IsName c.loop-below.path name c.loop-below.invariant.names read.0;
      room = omega (arith, longer, length-drop 12 c.loop-below.below.now, c.in_ok-level.ensures.cases.2);
      fields = longer_path c.loop-below.path c.loop-below.below.now name field ∙ c.loop-below.invariant.fields;
    }

pub returns : goal.returns
returns c other =
    let i = c.loop-below.invariant in
    let own : Designates c.args.area.now c.loop-below.path =
    whole_path c.args.area.now c.loop-below.below.now c.loop-below.path i.some i.names i.room i.fields cc in
    (λ e. let same : c.loop-below.path ≡ other = cc in rw (← same) own, λ d. ap Some (only_path c.args.area.now c.loop-below.path other own d))
