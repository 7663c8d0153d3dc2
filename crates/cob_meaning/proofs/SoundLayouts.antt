-- The layout of each program of a source is sound.
use Rattle.std.proofs.Common.{◌≡◌, ◌≤◌, ℕ, suc, ◌+◌, Bool, true, false, ◌==◌, List, [], ◌∷◌, ◌++◌, length, map, take, Option, Some, None, codes, refl, sym, ap, ◌∙◌, arith, append_assoc, length-append}
use Rattle.std.specs.Prelude.{IfSome, cond, filter_map, flat_map, if◌then◌else◌, option_map}
use Rattle.std.specs.Option.{option_or}
use Rattle.std.specs.List.{AllByRecursion, cons_option, list_all}
use Rattle.std.proofs.lemmas.Bool.{and_parts}
use Rattle.std.proofs.lemmas.Grind.{common_steps}
use Rattle.std.proofs.lemmas.Bool.Decides.{nat_tests}
use Rattle.com_text.specs.Text.{IsText}
use Rattle.cob_lex.specs.declared.token.Token.{Token}
use Rattle.cob_lex.specs.declared.fault.SourceFault.{SourceFault}
use Rattle.cob_lex.proofs.TokenSizes.{IsSizedToken, tokens_sized}
use Rattle.cob_forms.specs.Sorts.{reserved}
use Rattle.cob_forms.specs.declared.written.Position.{Position}
use Rattle.cob_forms.specs.Written.{name_of}
use Rattle.cob_forms.proofs.Only.{apart}
use Rattle.cob_data.specs.declared.tree.CdEntry.{CdEntry}
use Rattle.cob_data.specs.declared.tree.DataDivision.{DataDivision}
use Rattle.cob_data.specs.declared.tree.Item.{Item}
use Rattle.cob_data.specs.Clauses.{area_length, body_of, is_input, lists_names}
use Rattle.cob_data.specs.Divisions.{IsDivisionOf, body_by, cd_named, cds_from, communication_of, items_by_area, items_from, items_over, storage_records, working_storage_of}
use Rattle.cob_data.specs.Entries.{Run, cd_runs, is_cd, leads, runs_of, second_token, storage_items}
use Rattle.cob_data.specs.Faults.{data_fault, limits, over, record_size}
use Rattle.cob_data.specs.Layout.{body_names, cd_names, fill, first_number, initial_by, item_names, opening_cd}
use Rattle.cob_data.specs.Levels.{records_of}
use Rattle.cob_data.specs.Occurrences.{is_body_right}
use Rattle.cob_data.proofs.NoFaults.{no_other_fault}
use Rattle.cob_data.proofs.OccurrenceLaws.{has_occurrences}
use Rattle.cob_proc.specs.Faults.{procedure_fault}
use Rattle.cob_meaning.specs.Layouts.{Layout}
use Rattle.cob_meaning.specs.Meaning.{Program}
use Rattle.cob_meaning.specs.Sound.{IsItemIn, IsSound}
use Rattle.cob_meaning.specs.Sources.{IsProgramOf, from_procedure, layout_of, tokens_fault}
use Rattle.cob_meaning.specs.Storage.{area_in}
use Rattle.cob_data.proofs.DivisionShapes.{shaped_entries}
use Rattle.cob_data.proofs.EntryShapes.{IsCdEntry}
use Rattle.cob_data.proofs.OpeningAreas.{AreAreasOf, storage_areas}
use Rattle.cob_data.proofs.RightRecords.{IsItemOf, IsMeasuredRecord, IsRecord}
use Rattle.cob_data.proofs.RightRuns.{IsRightRun, IsTextToken, runs_right, taken_each}
use Rattle.cob_meaning.proofs.SoundAreas.{Holds, area_at, body_sound, items_hold, record_placed, storage_placed}
use Rattle.cob_data.proofs.TableNumbers.{area_size}
use Rattle.cob_data.proofs.Tests.{each_of_both}

-- WORKING-STORAGE

-- the records of Working-Storage
record IsStorageRight (records : List (List (List Token))) : Type 0 where
  are : AllByRecursion (IsRecord false (IsItemOf IsTextToken)) records
  measured : AllByRecursion (IsMeasuredRecord None) records

over_by : (b : Bool) (r : Run) → is_cd r.head ≡ b → b ≡ false → over r ≡ None
over_by true r e h = let no : ⊥ = cc in absurd no
over_by false r e h = ap (λ b. if b then Some (area_length r.head) else None) e

no_cd : (head : List Token) → leads (codes "WORKING-STORAGE") head ≡ true → is_cd head ≡ false
no_cd [] h = refl
no_cd (t ∷ ts) h = apart (reserved (codes "WORKING-STORAGE")) (reserved (codes "CD")) t h refl

storage_run : (r : Run) → leads (codes "WORKING-STORAGE") r.head ≡ true → IsRightRun r → IsStorageRight (records_of r.items)
storage_run r h right =
    let none = no_cd r.head h in
    record { are = rw none at right.records; measured = rw (over_by (is_cd r.head) r refl none) at right.measured }

storage_right : (runs : List Run) → AllByRecursion IsRightRun runs → IsStorageRight (records_of (storage_items runs))
storage_right [] h = record { are = tt; measured = tt }
storage_right (r ∷ runs) h = by (leads (codes "WORKING-STORAGE") r.head) refl (storage_right runs h.1)
  where
    by : (b : Bool) → leads (codes "WORKING-STORAGE") r.head ≡ b → IsStorageRight (records_of (storage_items runs)) → IsStorageRight (records_of (if b then r.items else storage_items runs))
    by true e k = storage_run r e h.0
    by false e k = k

-- CDS

-- a run of a CD entry
record IsCdRun (r : Run) : Type 0 where
  right : IsRightRun r
  cd : is_cd r.head ≡ true

cd_runs_right : (runs : List Run) → AllByRecursion IsRightRun runs → AllByRecursion IsCdRun (cd_runs runs)
cd_runs_right [] h = tt
cd_runs_right (r ∷ runs) h = by (is_cd r.head) refl (cd_runs_right runs h.1)
  where
    by : (b : Bool) → is_cd r.head ≡ b → AllByRecursion IsCdRun (cd_runs runs) → AllByRecursion IsCdRun (cond b (r ∷ cd_runs runs) (cd_runs runs))
    by true e k = (record { right = h.0; cd = e }, k)
    by false e k = k

-- what holds of a CD and the records over its area
record IsSoundCd (opening : List (List ℕ)) (entry : CdEntry) : Type 0 where
  names : AllByRecursion (Holds opening) (cd_names entry)
  text : IsText (opening_cd entry.body)
  initial : IfSome (initial_by entry.body) (λ p. 48 ≤ length (area_in opening entry.area))

-- a CD entry as it is written
abbrev entry_of : Token → ℕ → Run → CdEntry
entry_of named area r = record { name = name_of named; body = body_by (is_input r.head) (lists_names (body_of r.head)) r.head; area = area; records = items_over area (records_of r.items) }

same_size : (a b : ℕ) → (a == b) ≡ true → a ≡ b
same_size a b h = grind (arith, common_steps, nat_tests)

over_cd_by : (b : Bool) (r : Run) → is_cd r.head ≡ b → b ≡ true → over r ≡ Some (area_length r.head)
over_cd_by true r e h = ap (λ b. if b then Some (area_length r.head) else None) e
over_cd_by false r e h = let no : ⊥ = cc in absurd no

module _ (opening : List (List ℕ)) where
  -- the records over the area of a CD
  over_placed : (b : Bool) (area size : ℕ) → length (area_in opening area) ≡ size → (records : List (List (List Token))) → AllByRecursion (IsRecord b (IsItemOf IsTextToken)) records → AllByRecursion (IsMeasuredRecord (Some size)) records
      → AllByRecursion (λ i. IsItemIn opening i.place None) (items_over area records)
  over_placed b area size e [] r m = tt
  over_placed b area size e (items ∷ records) r m =
      each_of_both (λ i. IsItemIn opening i.place None) (items_from area 0 items) (items_over area records)
      (record_placed opening b IsTextToken area items r.0 m.0.few (e ∙ sym (same_size (record_size items) size m.0.over))) (over_placed b area size e records r.1 m.1)

  one_cd : (named : Token) (area : ℕ) (r : Run) → IsCdRun r → area_in opening area ≡ opening_cd (entry_of named area r).body → is_body_right (entry_of named area r).body ≡ true → IsSoundCd opening (entry_of named area r)
  one_cd named area r c at right =
      let head = r.head in
      let cd = c.right.head.shape.cd c.cd in
      let body = body_sound opening area head (is_input head) (lists_names (body_of head)) at right in
      let size = ap length at ∙ area_size head (lists_names (body_of head)) cd.numbers right in
      let measured : AllByRecursion (IsMeasuredRecord (Some (area_length head))) (records_of r.items) = rw (over_cd_by (is_cd head) r refl c.cd) at c.right.measured in
      record {
        names = (
          body.referent,
          each_of_both (Holds opening) (body_names area (entry_of named area r).body) (item_names (items_over area (records_of r.items))) body.names
              (items_hold opening (items_over area (records_of r.items)) (over_placed (is_cd head) area (area_length head) size (records_of r.items) c.right.records measured)),
        );
        text = body.text;
        initial = body.initial;
      }

  -- an entry has a name
  named_entry : (area : ℕ) (r : Run) (e : IsCdEntry r.head) → cd_named (second_token r.head) area r ≡ entry_of e.named area r ∷ []
  named_entry area r e = ap (λ us. cd_named (second_token us) area r) e.whole

  cds_sound : (area : ℕ) (front : List (List ℕ)) (runs : List Run) → opening ≡ front ++ map (λ entry. opening_cd entry.body) (cds_from area runs) → length front ≡ area → AllByRecursion IsCdRun runs
      → list_all (λ entry. is_body_right entry.body) (cds_from area runs) ≡ true → AllByRecursion (IsSoundCd opening) (cds_from area runs)
  cds_sound area front [] w e h right = tt
  cds_sound area front (r ∷ runs) w e h right =
      let cd = h.0.right.head.shape.cd h.0.cd in
      let one = entry_of cd.named area r in
      let others = cds_from (area + 1) runs in
      let whole : cds_from area (r ∷ runs) ≡ one ∷ others = ap (λ us. us ++ others) (named_entry area r cd) in
      let parts : opening ≡ front ++ opening_cd one.body ∷ map (λ entry. opening_cd entry.body) others = w ∙ ap (λ us. front ++ map (λ entry. opening_cd entry.body) us) whole in
      let rights = and_parts (is_body_right one.body) (list_all (λ entry. is_body_right entry.body) others) (ap (list_all (λ entry. is_body_right entry.body)) (sym whole) ∙ right) in
      let at = area_at opening front (map (λ entry. opening_cd entry.body) others) (opening_cd one.body) area parts e in
      let next : opening ≡ (front ++ opening_cd one.body ∷ []) ++ map (λ entry. opening_cd entry.body) others = parts ∙ sym (append_assoc front (opening_cd one.body ∷ []) (map (λ entry. opening_cd entry.body) others)) in
      let size : length (front ++ opening_cd one.body ∷ []) ≡ area + 1 = omega (arith, length-append front (opening_cd one.body ∷ []), e) in
      rw whole (one_cd cd.named area r h.0 at rights.0, cds_sound (area + 1) (front ++ opening_cd one.body ∷ []) runs next size h.1 rights.1)

  -- ALL CDS TOGETHER

  cds_names : (entries : List CdEntry) → AllByRecursion (IsSoundCd opening) entries → AllByRecursion (Holds opening) (flat_map cd_names entries)
  cds_names [] h = tt
  cds_names (entry ∷ entries) h = each_of_both (Holds opening) (cd_names entry) (flat_map cd_names entries) h.0.names (cds_names entries h.1)

  cds_texts : (entries : List CdEntry) → AllByRecursion (IsSoundCd opening) entries → AllByRecursion IsText (map (λ entry. opening_cd entry.body) entries)
  cds_texts [] h = tt
  cds_texts (entry ∷ entries) h = (h.0.text, cds_texts entries h.1)

  abbrev initial_of_entry : CdEntry → Option ℕ
  initial_of_entry entry = option_map (λ p. entry.area) (initial_by entry.body)

  initial_sound : (entries : List CdEntry) → AllByRecursion (IsSoundCd opening) entries → IfSome (first_number (filter_map initial_of_entry entries)) (λ area. 48 ≤ length (area_in opening area))
  initial_sound [] h = tt
  initial_sound (entry ∷ entries) h = by (initial_by entry.body) h.0.initial (initial_sound entries h.1)
    where
      by : (o : Option Position) → IfSome o (λ p. 48 ≤ length (area_in opening entry.area)) → IfSome (first_number (filter_map initial_of_entry entries)) (λ area. 48 ≤ length (area_in opening area))
          → IfSome (first_number (cons_option (option_map (λ p. entry.area) o) (filter_map initial_of_entry entries))) (λ area. 48 ≤ length (area_in opening area))
      by None h k = k
      by (Some p) h k = h

-- texts of areas
areas_text : (records : List (List (List Token))) (areas : List (List ℕ)) → AreAreasOf records areas → AllByRecursion IsText areas
areas_text [] [] h = tt
areas_text [] (x ∷ xs) h = absurd h
areas_text (items ∷ records) [] h = absurd h
areas_text (items ∷ records) (x ∷ xs) h = (h.0.text, areas_text records xs h.1)

areas_count : (records : List (List (List Token))) (areas : List (List ℕ)) → AreAreasOf records areas → length areas ≡ length records
areas_count [] [] h = refl
areas_count [] (x ∷ xs) h = absurd h
areas_count (items ∷ records) [] h = absurd h
areas_count (items ∷ records) (x ∷ xs) h = ap suc (areas_count records xs h.1)

-- THE DIVISIONS

-- the layout of these items and CDs
abbrev layout_by : List Item → List CdEntry → Layout
layout_by items cds = record {
  names = item_names items ++ flat_map cd_names cds;
  opening = (fill items).1 ++ map (λ entry. opening_cd entry.body) cds;
  initial = first_number (filter_map (λ entry. option_map (λ p. entry.area) (initial_by entry.body)) cds);
}

sound_by : (records : List (List (List Token))) (runs : List Run) → IsStorageRight records → AllByRecursion IsCdRun runs → list_all (λ entry. is_body_right entry.body) (cds_from (length records) runs) ≡ true
    → IsSound (layout_by (items_by_area 0 records) (cds_from (length records) runs))
sound_by records runs s c right =
    let items = items_by_area 0 records in
    let cds = cds_from (length records) runs in
    let own = (fill items).1 in
    let theirs = map (λ entry. opening_cd entry.body) cds in
    let opening = own ++ theirs in
    let areas : AreAreasOf records own = storage_areas records s.are in
    let placed = storage_placed opening IsTextToken 0 [] theirs own records refl refl s.are s.measured areas in
    let sound = cds_sound opening (length records) own runs refl (areas_count records own areas) c right in
    record {
      names = each_of_both (Holds opening) (item_names items) (flat_map cd_names cds) (items_hold opening items placed) (cds_names opening cds sound);
      texts = each_of_both IsText own theirs (areas_text records own areas) (cds_texts opening cds sound);
      initial = initial_sound opening cds sound;
    }

texts_of : (ts : List Token) → AllByRecursion IsSizedToken ts → AllByRecursion IsTextToken ts
texts_of [] h = tt
texts_of (t ∷ ts) h = (h.0.text, texts_of ts h.1)

division_sound : (ts : List Token) (place : ℕ) (d : DataDivision) → AllByRecursion IsTextToken ts → data_fault ts ≡ None → IsDivisionOf ts place d → IsSound (layout_of d)
division_sound ts place d texts none is =
    let before = take place ts in
    let runs = runs_of before in
    let faultless = no_other_fault ts place is.within is.complete none in
    let right = runs_right limits (take (place + 1) ts) before (taken_each IsTextToken place ts texts) (shaped_entries ts place is.within is.complete) faultless in
    let tables : list_all (λ entry. is_body_right entry.body) (communication_of before) ≡ true = ap (list_all (λ entry. is_body_right entry.body)) is.communication ∙ has_occurrences ts place d none is in
    let sound : IsSound (layout_by (working_storage_of before) (communication_of before)) = sound_by (storage_records runs) (cd_runs runs) (storage_right runs right) (cd_runs_right runs right) tables in
    rw (is.working_storage, is.communication) at sound

-- PROGRAMS

no_data_fault : (ts : List Token) → tokens_fault ts ≡ None → data_fault ts ≡ None
no_data_fault ts h = by (data_fault ts) refl h
  where
    by : (o : Option SourceFault) → data_fault ts ≡ o → option_or o (procedure_fault (from_procedure ts)) ≡ None → data_fault ts ≡ None
    by None e k = e
    by (Some fault) e k = let no : ⊥ = cc in absurd no

pub sound : (source : List ℕ) (program : Program) → IsProgramOf source program → IsSound program.layout
sound source program p =
    rw (p.spells.layout) (division_sound p.tokens p.spells.place p.spells.division (texts_of p.tokens (tokens_sized source p.tokens p.are_tokens)) (no_data_fault p.tokens p.spells.no_fault) p.spells.is_division)
