use Rattle.std.proofs.Common.{◌≡◌, ℕ, ◌+◌, ◌-◌, ◌<◌, ◌≤◌, nat_le, true, ◌&&◌, ◌++◌, [], ◌∷◌, List, length, take, drop, get_or, None, Some, Option, refl, sym, ap, ◌∙◌, arith}
use Rattle.std.specs.Prelude.{IsSome, IsNone}
use Rattle.std.specs.List.{list_all}
use Rattle.std.proofs.lemmas.Bool.{and_parts}
use Rattle.std.proofs.lemmas.Bool.Decides.{nat_tests}
use Rattle.std.proofs.lemmas.List.{take_rest, take_more, get_or-drop, get_or-map, length-map, length-drop, length-take-le}
use Rattle.toml.specs.declared.value.Value.{Value}
use Rattle.toml.specs.View.{view}
use Rattle.com_text.specs.Name.{is_name}
use Rattle.com_net.specs.Values.{text_in}
use Rattle.com_net.specs.inner.Seen.{texts_in}
use Rattle.com_net.specs.inner.Sound.{is_name_path}
use Rattle.com_net.proofs.Arrays.{named_at}
use Rattle.com_net.proofs.values.path_of.Goals as goal

-- what stands at a place after the first name
record IsBehind (names : List Value) (at : ℕ) (value : Value) : Type 0 where
  within : at + 1 < length names
  is : value ≡ get_or names (at + 1) value
  named : list_all is_name (texts_in names) ≡ true
  few : length names ≤ 4

behind : (names : List Value) (at : ℕ) (value : Value) → is_name_path (texts_in names) ≡ true → at < length (take (length names - 1) (drop 1 names)) → value ≡ get_or (take (length names - 1) (drop 1 names)) at value → IsBehind names at value
behind names at value path within is =
    let rest = take_rest names 1 in
    let parts = and_parts (nat_le 1 (length (texts_in names)) && nat_le (length (texts_in names)) 4) (list_all is_name (texts_in names)) path in
    let most = (and_parts (nat_le 1 (length (texts_in names))) (nat_le (length (texts_in names)) 4) parts.0).1 in
    let low : length (texts_in names) ≤ 4 = grind (arith, nat_tests, most) in
    let many = length-map names (λ value. text_in (view value)) in
    let step : 1 + at ≡ at + 1 = omega arith in
    record {
      within = omega (arith, within, ap length rest, length-drop 1 names);
      is = is ∙ (ap (λ xs. get_or xs at value) rest ∙ (get_or-drop 1 names at value ∙ ap (λ n. get_or names n value) step));
      named = parts.1;
      few = omega (arith, many, low);
    }

some_of : {A : Type 0} (o : Option A) → (IsNone o → ⊥) → IsSome o
some_of None none = absurd (none refl)
some_of (Some x) none = refl

pub name_in-requires-in-loop-name : goal.name_in-requires-in-loop-name
name_in-requires-in-loop-name c =
    let names = c.args.names.now in
    let at = c.loop-name.name-index in
    let value = c.name-item.result in
    let h = behind names at value c.requires c.loop-name-test.true c.name-item.is in
    ap (λ v. is_name (text_in (view v))) h.is ∙ named_at names (at + 1) value h.within h.named

pub unwrap-path-requires : goal.unwrap-path-requires
unwrap-path-requires c =
    let names = c.args.names.now in
    let at = c.loop-name.name-index in
    let h = behind names at c.name-item.result c.requires c.loop-name-test.true c.name-item.is in
    let many = length-map names (λ value. text_in (view value)) in
    let size : length c.loop-name.path ≡ at + 1 = ap length c.loop-name.invariant ∙ length-take-le (at + 1) (texts_in names) (omega (arith, h.within, many)) in
    some_of c.then.result (λ none. absurd (omega (arith, size, h.within, h.few, c.then.ensures.none.0 none)))

pub loop-name-preserved : goal.loop-name-preserved
loop-name-preserved c =
    let names = c.args.names.now in
    let at = c.loop-name.name-index in
    let value = c.name-item.result in
    let h = behind names at value c.requires c.loop-name-test.true c.name-item.is in
    let many = length-map names (λ value. text_in (view value)) in
    let within : at + 1 < length (texts_in names) = omega (arith, h.within, many) in
    let here : get_or (texts_in names) (at + 1) [] ≡ text_in (view value) =
    get_or-map (λ v. text_in (view v)) names (at + 1) value [] h.within ∙ ap (λ v. text_in (view v)) (sym h.is) in
    let longer : c.unwrap-path.result ≡ c.loop-name.path ++ c.name_in-in-loop-name.result ∷ [] = rw c.unwrap-path.ensures at c.then.ensures.longer in
    longer ∙ (rw (c.loop-name.invariant, c.name_in-in-loop-name.ensures, ← here) (sym (take_more (texts_in names) (at + 1) [] within)))
