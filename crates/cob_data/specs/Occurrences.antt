-- How often the destinations of output CDs occur.
use Rattle.std.specs.Prelude.{◌≡◌, Bool, true, ◌&&◌, nat_le}
use Rattle.std.specs.List.{list_all}
use Rattle.com_cd.specs.declared.output_area.TheConstants.{MAX_OCCURRENCES}
use Rattle.cob_data.specs.Numerals.{numeral}
use Rattle.cob_data.specs.declared.tree.CdBody.{CdBody}
use Rattle.cob_data.specs.declared.tree.CdBody.TheVariants as bodies
use Rattle.cob_data.specs.declared.tree.DataDivision.{DataDivision}
use Rattle.cob_data.specs.declared.tree.OutputClause.{OutputClause}
use Rattle.cob_data.specs.declared.tree.OutputClause.TheVariants as clauses

-- a table has as many destinations as an area may have, 1 to 8
abbrev pub is_table_right : OutputClause → Bool
is_table_right (clauses.Table position occurs) = nat_le 1 (numeral occurs.digits)
    && nat_le (numeral occurs.digits) MAX_OCCURRENCES
is_table_right other = true

-- each table of a CD has as many destinations as an area may have
abbrev pub is_body_right : CdBody → Bool
is_body_right (bodies.Output list) = list_all is_table_right list
is_body_right other = true

-- each table of a division has 1 to 8 destinations
abbrev pub HasOccurrences : DataDivision → Type 0
HasOccurrences d = list_all (λ entry. is_body_right entry.body) d.communication ≡ true
