use Rattle.std.proofs.Common.{◌≡◌, ◌++◌, true, drop, map}
use Rattle.std.specs.List.{list_all}
use Rattle.cob_data.specs.Layout.{opening_cd}
use Rattle.cob_data.specs.Occurrences.{is_body_right}
use Rattle.cob_data.proofs.opening.put_cd_areas.Given as goal

abbrev pub invariant-entries : goal.invariant-entries
invariant-entries l = record {
  left : l.areas.items ++ map (λ entry. opening_cd entry.body) (drop l.entry-index l.entries) ≡ l.initial.areas.items ++ map (λ entry. opening_cd entry.body) l.entries;
  right : list_all (λ entry. is_body_right entry.body) (drop l.entry-index l.entries) ≡ true;
}
