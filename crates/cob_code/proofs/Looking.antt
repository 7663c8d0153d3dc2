-- What a name stands for, by what it is seen as.
use Rattle.std.proofs.Common.{◌≡◌, ℕ, List, Option, Some, None, Result, Ok, Err, ap}
use Rattle.std.specs.Prelude.{option_map}
use Rattle.cob_lex.specs.declared.fault.SourceFault.{SourceFault}
use Rattle.cob_forms.specs.declared.written.Position.{Position}
use Rattle.cob_forms.specs.Faults.{first}
use Rattle.cob_data.specs.Layout as layout
use Rattle.cob_data.specs.declared.tree.ItemSort.{ItemSort}
use Rattle.cob_meaning.specs.Layouts.{◌>>=◌, place_of}
use Rattle.cob_meaning.specs.Names.{data_faults_by, input_faults_by, is_numeric_item, output_faults_by}
use Rattle.cob_code.specs.declared.referent.Referent.{Referent}
use Rattle.cob_code.specs.declared.referent.Shape.{Shape}
use Rattle.cob_code.specs.inner.Referents.{seen}
use Rattle.cob_code.specs.inner.Rules.{input_by, number_by, output_by, shape_by}

-- the fault of data by a rule, or the fault that there is
abbrev pub ruled : (Shape → List SourceFault) → Result Shape SourceFault → Option SourceFault
ruled rule (Ok shape) = first (rule shape)
ruled rule (Err fault) = Some fault

pub shape_seen : (rule : ℕ → ItemSort → Option ℕ → List SourceFault) (r : Option layout.Referent) (o : Option Referent) (position : Position) → o ≡ option_map seen r
    → ruled (λ shape. rule shape.length shape.sort shape.occurs) (shape_by o position) ≡ first (data_faults_by r position (λ item occurs. rule item.length item.sort occurs))
shape_seen rule None o position e = ap (λ x. ruled (λ shape. rule shape.length shape.sort shape.occurs) (shape_by x position)) e
shape_seen rule (Some (layout.data_at place occurs)) o position e = ap (λ x. ruled (λ shape. rule shape.length shape.sort shape.occurs) (shape_by x position)) e
shape_seen rule (Some (layout.input_cd area)) o position e = ap (λ x. ruled (λ shape. rule shape.length shape.sort shape.occurs) (shape_by x position)) e
shape_seen rule (Some (layout.output_cd area occurrences)) o position e = ap (λ x. ruled (λ shape. rule shape.length shape.sort shape.occurs) (shape_by x position)) e

pub number_seen : (r : Option layout.Referent) (o : Option Referent) → o ≡ option_map seen r → number_by o ≡ is_numeric_item (r >>= place_of)
number_seen None o e = ap number_by e
number_seen (Some (layout.data_at place occurs)) o e = ap number_by e
number_seen (Some (layout.input_cd area)) o e = ap number_by e
number_seen (Some (layout.output_cd area occurrences)) o e = ap number_by e

pub input_seen : (r : Option layout.Referent) (o : Option Referent) (position : Position) → o ≡ option_map seen r → input_by o position ≡ first (input_faults_by r position)
input_seen None o position e = ap (λ x. input_by x position) e
input_seen (Some (layout.data_at place occurs)) o position e = ap (λ x. input_by x position) e
input_seen (Some (layout.input_cd area)) o position e = ap (λ x. input_by x position) e
input_seen (Some (layout.output_cd area occurrences)) o position e = ap (λ x. input_by x position) e

pub output_seen : (r : Option layout.Referent) (o : Option Referent) (position : Position) → o ≡ option_map seen r → output_by o position ≡ first (output_faults_by r position)
output_seen None o position e = ap (λ x. output_by x position) e
output_seen (Some (layout.data_at place occurs)) o position e = ap (λ x. output_by x position) e
output_seen (Some (layout.input_cd area)) o position e = ap (λ x. output_by x position) e
output_seen (Some (layout.output_cd area occurrences)) o position e = ap (λ x. output_by x position) e
