-- What the finite map of a `BTreeMap` of lists by name has at each name, before and after a change.
use Rattle.std.proofs.Common.{◌≡◌, ℕ, Bool, true, false, cond, List, [], ◌∷◌, ◌++◌, map, Option, Some, option_map, unwrap_or, string_bytes, refl, sym, ap, ◌∙◌}
use Rattle.std.specs.Ordering.{nat_cmp, eq_by_cmp}
use Rattle.std.specs.Cmp.{Equal-is}
use Rattle.std.specs.Cmp.Lexicographic.{slice_cmp}
use Rattle.std.specs.String.{string_cmp}
use Rattle.std.specs.Str.{bytes_eq}
use Rattle.std.specs.Map.{lookup}
use Rattle.std.specs.BTreeMap.{BTreeMap, UpdatesBy, get_by_text, is_at}
use Rattle.std.specs.FinMap.{FinMap, get, insert, find, get-from_entries, get-insert, same_map, nat_cmp-IsAntisymmetric, slice_cmp-IsAntisymmetric}
use Rattle.std.proofs.lemmas.Cmp.{nat_list_cmp_total, eq_by_cmp_equiv}
use Rattle.std.proofs.lemmas.Map.Text.{btree_map_updates_text, is_eq-slice_cmp}
use Rattle.std.specs.declared.string.String.{String}
use Rattle.std.specs.declared.vec.Vec.{Vec}
use Rattle.com_io.specs.Named.{lists_by_name}

module _ {X : Type 0} (m : FinMap (slice_cmp nat_cmp) X) where
  -- a map that has the same at each name is this one
  same_named : (n : FinMap (slice_cmp nat_cmp) X) → ((q : List ℕ) → get n q ≡ get m q) → n ≡ m
  same_named n h = same_map nat_list_cmp_total (slice_cmp-IsAntisymmetric nat_cmp-IsAntisymmetric) n m h

  same_at : (q : List ℕ) (x : X) → get m q ≡ Some x → (cs : List ℕ) (b : Bool) → eq_by_cmp (slice_cmp nat_cmp) cs q ≡ b → cond b (Some x) (get m cs) ≡ get m cs
  same_at q x h cs true e = sym (ap (get m) (slice_cmp-IsAntisymmetric nat_cmp-IsAntisymmetric cs q ((Equal-is _).0 e)) ∙ h)
  same_at q x h cs false e = refl

  -- to give a name what it has changes nothing
  insert_same : (q : List ℕ) (x : X) → get m q ≡ Some x → insert m q x ≡ m
  insert_same q x h = same_named _ (λ cs. get-insert nat_list_cmp_total m q x cs ∙ same_at q x h cs _ refl)

option_map-cond : {X Z : Type 0} (b : Bool) (v : Vec X Z) (o : Option (Vec X Z)) → option_map (λ v. v.items) (cond b (Some v) o) ≡ cond b (Some v.items) (option_map (λ v. v.items) o)
option_map-cond true v o = refl
option_map-cond false v o = refl

module _ {X Y Z : Type 0} where
  find-entries : (es : List (String Y × Vec X Z)) (q : List ℕ) → find (slice_cmp nat_cmp) q (map (λ e. (string_bytes e.0, e.1.items)) es) ≡ option_map (λ v. v.items) (lookup (is_at (λ k. slice_cmp nat_cmp q (string_bytes k))) es)
  find-entries [] q = refl
  find-entries (e ∷ es) q =
      elim (eq_by_cmp (slice_cmp nat_cmp) q (string_bytes e.0)) as (λ b. cond b (Some e.1.items) (find (slice_cmp nat_cmp) q (map (λ e. (string_bytes e.0, e.1.items)) es)) ≡ option_map (λ v. v.items) (cond b (Some e.1) (lookup (is_at (λ k. slice_cmp nat_cmp q (string_bytes k))) es))) [
        | true ↦ refl
        | false ↦ find-entries es q
      ]

  -- what a name has
  pub get-named : (m : BTreeMap (String Y) (Vec X Z)) (q : List ℕ) → get (lists_by_name m.entries) q ≡ option_map (λ v. v.items) (get_by_text m q)
  get-named m q = get-from_entries nat_list_cmp_total _ q ∙ find-entries m.entries q

  module _ (m n : BTreeMap (String Y) (Vec X Z)) (q : List ℕ) (v : Vec X Z) (h : UpdatesBy string_cmp (λ k. slice_cmp nat_cmp q (string_bytes k)) m n (Some v)) where
    -- the name has the new list, and each other name what it had
    named-updates : lists_by_name n.entries ≡ insert (lists_by_name m.entries) q v.items
    named-updates = same_named _ _ (λ cs. get-named n cs
        ∙ ap (option_map (λ v. v.items)) (btree_map_updates_text q m n (Some v) h cs)
        ∙ option_map-cond (bytes_eq q cs) v (get_by_text m cs)
        ∙ ap (λ b. cond b (Some v.items) (option_map (λ v. v.items) (get_by_text m cs))) (sym (is_eq-slice_cmp q cs) ∙ (eq_by_cmp_equiv nat_list_cmp_total).symm q cs)
        ∙ ap (cond (eq_by_cmp (slice_cmp nat_cmp) cs q) (Some v.items)) (sym (get-named m cs))
        ∙ sym (get-insert nat_list_cmp_total (lists_by_name m.entries) q v.items cs))

    pub named-inserts : (ys : List X) → v.items ≡ ys → lists_by_name n.entries ≡ insert (lists_by_name m.entries) q ys
    named-inserts ys e = named-updates ∙ ap (insert (lists_by_name m.entries) q) e

    module _ (w : Vec X Z) (had : get_by_text m q ≡ Some w) where
      named-had : get (lists_by_name m.entries) q ≡ Some w.items
      named-had = get-named m q ∙ ap (option_map (λ v. v.items)) had

      -- the name's list has grown
      pub named-appends : (ys : List X) → v.items ≡ w.items ++ ys → lists_by_name n.entries ≡ insert (lists_by_name m.entries) q (unwrap_or (get (lists_by_name m.entries) q) [] ++ ys)
      named-appends ys e = named-inserts _ (e ∙ ap (λ o. unwrap_or o [] ++ ys) (sym named-had))

      -- the name's list stays
      pub named-stays : v.items ≡ w.items → lists_by_name n.entries ≡ lists_by_name m.entries
      named-stays e = named-inserts _ e ∙ insert_same _ q w.items named-had
