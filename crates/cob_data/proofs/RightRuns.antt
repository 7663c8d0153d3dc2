-- The runs of tokens without faults: their items are right, and their records within the limits.
use Rattle.std.proofs.Common.{◌≡◌, ℕ, zero, suc, Bool, true, false, not, ◌&&◌, List, [], ◌∷◌, ◌++◌, take, map, filter, Option, Some, None, refl}
use Rattle.std.specs.Prelude.{IfSome, cond, find, if◌then◌else◌, is_none}
use Rattle.std.specs.List.{AllByRecursion}
use Rattle.com_text.specs.Text.{IsText}
use Rattle.cob_lex.specs.declared.fault.SourceKind.TheVariants as faults
use Rattle.cob_lex.specs.declared.token.Token.{Token}
use Rattle.cob_lex.specs.declared.token.TokenKind.TheVariants as tokens
use Rattle.cob_forms.specs.Sorts.{is, of_kind}
use Rattle.cob_data.specs.Entries.{Run, behind, described, ends_entry, entries_of, is_cd, is_item, picture_in, pieces, put, put_in_runs, runs_of, split_runs, value_in, wants_word, word_flags}
use Rattle.cob_data.specs.Faults.{Limits, at_any, bad_pictures, is_bad, level_faults, other_faults, over, records_faults, run_faults, runs_faults, whole_faults}
use Rattle.cob_data.specs.Levels.{records_of}
use Rattle.cob_data.specs.Pictures.{size_of}
use Rattle.cob_data.proofs.NoFaults.{behind_none, front_none}
use Rattle.cob_data.proofs.EntryShapes.{IsShaped}
use Rattle.cob_data.proofs.RightItems.{IsSome, all_right}
use Rattle.cob_data.proofs.RightRecords.{IsItemOf, IsMeasuredRecord, IsRecord, all_measured, are_records}

-- TOKENS OF ENTRIES

-- what holds of each token of a text holds of each token of its entries
module _ (P : Token → Type 0) where
  abbrev Each : List Token → Type 0
  Each ts = AllByRecursion P ts

  put_each : (b : Bool) (t : Token) (lists : List (List Token)) → P t → AllByRecursion Each lists → AllByRecursion Each (put b t lists)
  put_each true t lists p h = ((p, tt), h)
  put_each false t [] p h = ((p, tt), tt)
  put_each false t (ts ∷ lists) p h = ((p, h.0), h.1)

  pieces_each : (ends : Token → List Token → Bool) (ts : List Token) → Each ts → AllByRecursion Each (pieces ends ts)
  pieces_each ends [] h = tt
  pieces_each ends (t ∷ ts) h = put_each (ends t ts) t (pieces ends ts) h.0 (pieces_each ends ts h.1)

  kept_each : (word : Bool) (entries : List (List Token)) → AllByRecursion Each entries → AllByRecursion Each (map (λ x. x.1) (filter (λ x. not x.0) (word_flags word entries)))
  kept_each word [] h = tt
  kept_each true (entry ∷ entries) h = kept_each false entries h.1
  kept_each false (entry ∷ entries) h = (h.0, kept_each (wants_word entry) entries h.1)

  pub described_each : (ts : List Token) → Each ts → AllByRecursion Each (described ts)
  described_each ts h = kept_each false (entries_of ts) (pieces_each ends_entry ts h)

  found_by : (b : Bool) (t : Token) (o : Option Token) → P t → IfSome o P → IfSome (cond b (Some t) o) P
  found_by true t o p h = p
  found_by false t o p h = h

  find_each : (test : Token → Bool) (ts : List Token) → Each ts → IfSome (find test ts) P
  find_each test [] h = tt
  find_each test (t ∷ ts) h = found_by (test t) t (find test ts) h.0 (find_each test ts h.1)

  behind_by : (b : Bool) (ts us : List Token) → Each ts → Each us → Each (if b then ts else us)
  behind_by true ts us h k = h
  behind_by false ts us h k = k

  behind_each : (test : Token → Bool) (ts : List Token) → Each ts → Each (behind test ts)
  behind_each test [] h = tt
  behind_each test (t ∷ ts) h = behind_by (test t) ts (behind test ts) h.1 (behind_each test ts h.1)

  pub value_each : (entry : List Token) → Each entry → IfSome (value_in entry) P
  value_each entry h = find_each _ _ (behind_each _ entry h)

  pub taken_each : (n : ℕ) (ts : List Token) → Each ts → Each (take n ts)
  taken_each zero ts h = tt
  taken_each (suc n) [] h = tt
  taken_each (suc n) (t ∷ ts) h = (h.0, taken_each n ts h.1)

-- a token is a text, and not a malformed picture
pub record IsSoundToken (t : Token) : Type 0 where
  pub text : IsText t.text
  pub picture : (is (of_kind tokens.Picture) t && is_none (size_of t.text)) ≡ false

abbrev is_bad_picture : Token → Bool
is_bad_picture t = is (of_kind tokens.Picture) t && is_none (size_of t.text)

sound_by : (b : Bool) (t : Token) (ts : List Token) → is_bad_picture t ≡ b → IsText t.text → AllByRecursion (λ u. IsText u.text) ts → at_any faults.BadPicture (cond b (t ∷ filter is_bad_picture ts) (filter is_bad_picture ts)) ≡ []
    → (at_any faults.BadPicture (filter is_bad_picture ts) ≡ [] → AllByRecursion IsSoundToken ts) → AllByRecursion IsSoundToken (t ∷ ts)
sound_by true t ts e h k none next = let no : ⊥ = cc in absurd no
sound_by false t ts e h k none next = (record { text = h; picture = e }, next none)

all_sound : (ts : List Token) → AllByRecursion (λ t. IsText t.text) ts → bad_pictures ts ≡ [] → AllByRecursion IsSoundToken ts
all_sound [] h none = tt
all_sound (t ∷ ts) h none = sound_by (is_bad_picture t) t ts refl h.0 h.1 none (all_sound ts h.1)

-- the picture of an entry is not malformed
picture_by : (b : Bool) (t : Token) (o : Option Token) → is (of_kind tokens.Picture) t ≡ b → IsSoundToken t → is_bad o ≡ false → is_bad (cond b (Some t) o) ≡ false
picture_by true t o e s h = rw e at s.picture
picture_by false t o e s h = h

picture_good : (entry : List Token) → AllByRecursion IsSoundToken entry → is_bad (picture_in entry) ≡ false
picture_good [] h = refl
picture_good (t ∷ ts) h = picture_by (is (of_kind tokens.Picture) t) t (picture_in ts) refl h.0 (picture_good ts h.1)

-- ENTRIES

pub record IsSoundEntry (entry : List Token) : Type 0 where
  pub shape : IsShaped entry
  pub each : AllByRecursion IsSoundToken entry

abbrev pub IsTextToken : Token → Type 0
IsTextToken t = IsText t.text

text_some : (o : Option Token) → IfSome o IsSoundToken → IfSome o IsTextToken
text_some None h = tt
text_some (Some t) h = h.text

item_entry : (entry : List Token) → IsSoundEntry entry → is_item entry ≡ true → IsItemOf IsTextToken entry
item_entry entry s e = record { shape = s.shape.item e; picture = picture_good entry s.each; value = text_some (value_in entry) (value_each IsSoundToken entry s.each) }

both_entries : (entries : List (List Token)) → AllByRecursion IsShaped entries → AllByRecursion (AllByRecursion IsSoundToken) entries → AllByRecursion IsSoundEntry entries
both_entries [] a b = tt
both_entries (entry ∷ entries) a b = (record { shape = a.0; each = b.0 }, both_entries entries a.1 b.1)

-- RUNS

record IsRunOf (r : Run) : Type 0 where
  head : IsSoundEntry r.head
  items : AllByRecursion (IsItemOf IsTextToken) r.items
  some : AllByRecursion IsSome r.items

record AreRuns (s : List (List Token) × List Run) : Type 0 where
  items : AllByRecursion (IsItemOf IsTextToken) s.0
  some : AllByRecursion IsSome s.0
  runs : AllByRecursion IsRunOf s.1

runs_by : (b : Bool) (entry : List Token) (s : List (List Token) × List Run) → is_item entry ≡ b → IsSoundEntry entry → AreRuns s → AreRuns (put_in_runs b entry s)
runs_by true entry s e h r = record { items = (item_entry entry h e, r.items); some = (e, r.some); runs = r.runs }
runs_by false entry s e h r = record { items = tt; some = tt; runs = (record { head = h; items = r.items; some = r.some }, r.runs) }

are_runs : (entries : List (List Token)) → AllByRecursion IsSoundEntry entries → AreRuns (split_runs entries)
are_runs [] h = record { items = tt; some = tt; runs = tt }
are_runs (entry ∷ entries) h = runs_by (is_item entry) entry (split_runs entries) refl h.0 (are_runs entries h.1)

-- a run without faults
pub record IsRightRun (r : Run) : Type 0 where
  pub head : IsSoundEntry r.head
  pub records : AllByRecursion (IsRecord (is_cd r.head) (IsItemOf IsTextToken)) (records_of r.items)
  pub measured : AllByRecursion (IsMeasuredRecord (over r)) (records_of r.items)

run_right : (r : Run) → IsRunOf r → run_faults false r ≡ [] → IsRightRun r
run_right r h none =
    let two = front_none (level_faults (is_cd r.head) [] r.items ++ whole_faults false (is_cd r.head) r.items) (records_faults false (over r) (records_of r.items)) none in
    let levels = front_none (level_faults (is_cd r.head) [] r.items) (whole_faults false (is_cd r.head) r.items) two in
    let wholes = behind_none (level_faults (is_cd r.head) [] r.items) (whole_faults false (is_cd r.head) r.items) two in
    let sizes = behind_none (level_faults (is_cd r.head) [] r.items ++ whole_faults false (is_cd r.head) r.items) (records_faults false (over r) (records_of r.items)) none in
    let records = are_records (is_cd r.head) (IsItemOf IsTextToken) r.items (all_right (is_cd r.head) [] r.items h.some levels wholes) h.items in
    record { head = h.head; records = records; measured = all_measured (is_cd r.head) IsTextToken (over r) (records_of r.items) records sizes }

all_runs_right : (runs : List Run) → AllByRecursion IsRunOf runs → runs_faults true runs ≡ [] → AllByRecursion IsRightRun runs
all_runs_right [] h none = tt
all_runs_right (r ∷ []) h none = (run_right r h.0 none, tt)
all_runs_right (r ∷ next ∷ runs) h none =
    (run_right r h.0 (front_none (run_faults false r) (runs_faults true (next ∷ runs)) none), all_runs_right (next ∷ runs) h.1 (behind_none (run_faults false r) (runs_faults true (next ∷ runs)) none))

-- NO FAULT

no_bad_picture : (l : Limits) (f : Bool) (lined ts : List Token) → other_faults l f lined ts ≡ [] → bad_pictures ts ≡ []
no_bad_picture l f lined ts h = behind_none _ _ (front_none _ _ (front_none _ _ (front_none _ _ (front_none _ _ (front_none _ _ (front_none _ _ (front_none _ _ h)))))))

no_run_fault : (l : Limits) (f : Bool) (lined ts : List Token) → other_faults l f lined ts ≡ [] → runs_faults f (runs_of ts) ≡ []
no_run_fault l f lined ts h = behind_none _ _ (front_none _ _ h)

pub runs_right : (l : Limits) (lined ts : List Token) → AllByRecursion IsTextToken ts → AllByRecursion IsShaped (described ts) → other_faults l true lined ts ≡ [] → AllByRecursion IsRightRun (runs_of ts)
runs_right l lined ts texts shaped none =
    let each = described_each IsSoundToken ts (all_sound ts texts (no_bad_picture l true lined ts none)) in
    all_runs_right (runs_of ts) (are_runs (described ts) (both_entries (described ts) shaped each)).runs (no_run_fault l true lined ts none)
