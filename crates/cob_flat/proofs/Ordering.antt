-- The names of an input CD by its fields in order.
use Rattle.std.proofs.Common.{◌≡◌, ℕ, List, [], ◌∷◌, ◌++◌, Option, Some, None, Result, Ok, Err, OnOk, refl, sym, ap, ◌∙◌}
use Rattle.std.specs.Prelude.{flat_map, zip}
use Rattle.com_cd.specs.declared.input_area.InField.{InField}
use Rattle.cob_forms.specs.declared.written.Name.{Name}
use Rattle.cob_forms.specs.declared.written.Position.{Position}
use Rattle.cob_data.specs.Layout.{Declared, body_names, for_data, input_fields, input_place}
use Rattle.cob_data.specs.declared.tree.CdBody.{CdBody}
use Rattle.cob_data.specs.declared.tree.CdBody.TheVariants as bodies
use Rattle.cob_flat.specs.inner.Referents.{names_in_order}

pub on_ok : {A E : Type 0} (r : Result A E) (X Y : Type 0) → (X → Y) → OnOk r X → OnOk r Y
on_ok (Ok a) X Y f x = f x
on_ok (Err e) X Y f x = tt

in_order : (area : ℕ) (names : List (Option Name)) (fields : List InField) → names_in_order area names fields ≡ flat_map (λ pair. for_data pair.0 (input_place area pair.1) None) (zip names fields)
in_order area [] fields = refl
in_order area (name ∷ names) [] = refl
in_order area (name ∷ names) (field ∷ fields) = ap (λ l. for_data name (input_place area field) None ++ l) (in_order area names fields)

-- the body of the CD has these names
pub names_of_body : (area : ℕ) (body : CdBody) (initial : Option Position) (names list : List (Option Name)) (fields : List InField) → body ≡ bodies.InputNames initial names → list ≡ names → fields ≡ input_fields
    → names_in_order area list fields ≡ body_names area body
names_of_body area body initial names list fields e same all =
    ap (λ l. names_in_order area l fields) same ∙ ap (names_in_order area names) all ∙ in_order area names input_fields ∙ sym (ap (body_names area) e)
