-- Reading part by part.
use Rattle.std.proofs.Common.{◌≡◌, ◌≤◌, ◌<◌, ℕ, suc, ◌+◌, ◌-◌, Bool, true, false, List, [], ◌∷◌, ◌++◌, length, take, drop, get_or, Option, Some, None, Result, Ok, Err, MatchResult, Bor, codes, refl, sym, ap, ◌∙◌, arith, drop-cons, length-drop}
use Rattle.std.proofs.Math.Seq.{take-length}
use Rattle.cob_lex.specs.declared.token.Token.{Token}
use Rattle.cob_forms.specs.Sorts.{Sort, is, reserved}
use Rattle.cob_forms.specs.Forms.{Part, token, form, maybe, more, behind, ends, goes_on, may_end, next, reading, wanted}
use Rattle.cob_forms.specs.Readers.{begins}
use Rattle.std.specs.Prelude.{if◌then◌else◌}
use Rattle.cob_data.specs.Faults.{with_procedure}
use Rattle.cob_data.specs.Forms.{Form, alternatives_of}
use Rattle.cob_data.specs.declared.reader.Wanted.{Wanted}
use Rattle.cob_data.specs.declared.grammar.Part.{Part as TablePart}
use Rattle.cob_data.specs.Tables.{part_of, parts_of}
use Rattle.cob_data.specs.Stops.{ReadsTo, StopsAt, BeginsWith, BeginsNot}

-- what is read of one part is read of it before further parts too
pub onward : (p : Part Form) (ts mid : List Token) (ps : List (Part Form)) (part : Part Form) (below : List (Part Form)) → ReadsTo (p ∷ []) ts mid
    → reading alternatives_of (p ∷ ps ++ part ∷ below) ts ≡ reading alternatives_of (ps ++ part ∷ below) mid
onward p ts mid [] part below h = h part below
onward p ts mid (q ∷ ps) part below h = h q (ps ++ part ∷ below)

pub stopped : (p : Part Form) (ts : List Token) (left : ℕ) (ps : List (Part Form)) (part : Part Form) (below : List (Part Form)) → StopsAt (p ∷ []) ts left
    → reading alternatives_of (p ∷ ps ++ part ∷ below) ts ≡ wanted left
stopped p ts left [] part below h = h part below
stopped p ts left (q ∷ ps) part below h = h q (ps ++ part ∷ below)

-- A TOKEN

pub takes : (sort : Sort) (t : Token) (ts : List Token) → is sort t ≡ true → ReadsTo (token sort ∷ []) (t ∷ ts) ts
unfolding reading next
takes sort t ts h = λ part below. rw h refl

pub misses : (sort : Sort) (t : Token) (ts : List Token) → is sort t ≡ false → StopsAt (token sort ∷ []) (t ∷ ts) (length (t ∷ ts))
unfolding reading next
misses sort t ts h = λ part below. rw h refl

pub ends_early : (sort : Sort) → StopsAt (token sort ∷ []) [] 0
unfolding reading next
ends_early sort = λ part below. refl

-- A FORM

pub enters : (f : Form) (ts rest mid : List Token) (parts : List (Part Form)) → BeginsWith f ts parts mid → ReadsTo parts mid rest → ReadsTo (form f ∷ []) ts rest
unfolding reading next
enters f [] rest mid parts b h = absurd b
enters f (t ∷ ts) rest mid parts b h = λ part below. rw b.0 (ap (λ us. reading alternatives_of (parts ++ part ∷ below) us) b.1 ∙ h part below)

pub enters_stop : (f : Form) (ts mid : List Token) (left : ℕ) (parts : List (Part Form)) → BeginsWith f ts parts mid → StopsAt parts mid left → StopsAt (form f ∷ []) ts left
unfolding reading next
enters_stop f [] mid left parts b h = absurd b
enters_stop f (t ∷ ts) mid left parts b h = λ part below. rw b.0 (ap (λ us. reading alternatives_of (parts ++ part ∷ below) us) b.1 ∙ h part below)

pub not_entered : (f : Form) (ts : List Token) → BeginsNot f ts → StopsAt (form f ∷ []) ts (length ts)
unfolding reading next
not_entered f [] b = λ part below. refl
not_entered f (t ∷ ts) b = λ part below. rw b refl

-- A FORM THAT MAY BE LEFT OUT

pub maybe_enters : (f : Form) (ts rest mid : List Token) (parts : List (Part Form)) → BeginsWith f ts parts mid → ReadsTo parts mid rest → ReadsTo (maybe f ∷ []) ts rest
unfolding reading next
maybe_enters f [] rest mid parts b h = absurd b
maybe_enters f (t ∷ ts) rest mid parts b h = λ part below. rw b.0 (ap (λ us. reading alternatives_of (parts ++ part ∷ below) us) b.1 ∙ h part below)

pub maybe_stops : (f : Form) (ts mid : List Token) (left : ℕ) (parts : List (Part Form)) → BeginsWith f ts parts mid → StopsAt parts mid left → StopsAt (maybe f ∷ []) ts left
unfolding reading next
maybe_stops f [] mid left parts b h = absurd b
maybe_stops f (t ∷ ts) mid left parts b h = λ part below. rw b.0 (ap (λ us. reading alternatives_of (parts ++ part ∷ below) us) b.1 ∙ h part below)

pub left_out : (f : Form) (ts : List Token) → BeginsNot f ts → ReadsTo (maybe f ∷ []) ts ts
unfolding reading next
left_out f [] b = λ part below. refl
left_out f (t ∷ ts) b = λ part below. rw b refl

-- FURTHER TURNS

pub turn : (f : Form) (ts rest mid : List Token) (parts : List (Part Form)) (part : Part Form) (below : List (Part Form)) → BeginsWith f ts parts mid → ReadsTo parts mid rest
    → reading alternatives_of (more f ∷ part ∷ below) ts ≡ reading alternatives_of (more f ∷ part ∷ below) rest
unfolding reading next
turn f [] rest mid parts part below b h = absurd b
turn f (t ∷ ts) rest mid parts part below b h = rw b.0 (ap (λ us. reading alternatives_of (parts ++ more f ∷ part ∷ below) us) b.1 ∙ h (more f) (part ∷ below))

pub turn_stops : (f : Form) (ts mid : List Token) (left : ℕ) (parts : List (Part Form)) (part : Part Form) (below : List (Part Form)) → BeginsWith f ts parts mid → StopsAt parts mid left
    → reading alternatives_of (more f ∷ part ∷ below) ts ≡ wanted left
unfolding reading next
turn_stops f [] mid left parts part below b h = absurd b
turn_stops f (t ∷ ts) mid left parts part below b h = rw b.0 (ap (λ us. reading alternatives_of (parts ++ more f ∷ part ∷ below) us) b.1 ∙ h (more f) (part ∷ below))

pub no_turn : (f : Form) (ts : List Token) → BeginsNot f ts → ReadsTo (more f ∷ []) ts ts
unfolding reading next
no_turn f [] b = λ part below. refl
no_turn f (t ∷ ts) b = λ part below. rw b refl

-- BY THE PART AND BY THE ANSWER

pub at_front : (ts : List Token) (t : Token) → 1 ≤ length ts → t ≡ get_or ts 0 t → ts ≡ t ∷ take (length ts - 1) (drop 1 ts)
at_front [] t some same = absurd (omega (arith, some))
at_front (u ∷ us) t some same =
    let one_less : length (u ∷ us) - 1 ≡ length us = omega arith in
    ap (λ x. x ∷ us) (sym same) ∙ ap (λ xs. t ∷ xs) (sym (ap (λ n. take n us) one_less ∙ take-length us))

pub token_read : (sort : Sort) (t : Token) (ts rest : List Token) → ts ≡ t ∷ rest → is sort t ≡ true → ReadsTo (token sort ∷ []) ts rest
token_read sort t ts rest front h = rw front (takes sort t rest h)

pub token_wanted : (sort : Sort) (t : Token) (ts rest : List Token) → ts ≡ t ∷ rest → is sort t ≡ false → StopsAt (token sort ∷ []) ts (length ts)
token_wanted sort t ts rest front h = rw front (misses sort t rest h)

pub none_wanted : (sort : Sort) (ts : List Token) → length ts < 1 → StopsAt (token sort ∷ []) ts 0
none_wanted sort [] h = ends_early sort
none_wanted sort (t ∷ ts) h = absurd (omega (arith, h))

-- what a function answers of parts
abbrev pub Answered : List (Part Form) → List Token → Result (Bor (List Token)) Wanted → Type 0
Answered parts ts result = MatchResult result (λ rest. ReadsTo parts ts rest.now) (λ stop. StopsAt parts ts stop.left)

pub form_read : (p : Part Form) (f : Form) (ts mid : List Token) (parts : List (Part Form)) (result : Result (Bor (List Token)) Wanted) → p ≡ form f → BeginsWith f ts parts mid → Answered parts mid result → Answered (p ∷ []) ts result
form_read p f ts mid parts (Ok rest) e b h = rw e (enters f ts rest.now mid parts b h)
form_read p f ts mid parts (Err stop) e b h = rw e (enters_stop f ts mid stop.left parts b h)

pub maybe_read : (p : Part Form) (f : Form) (ts mid : List Token) (parts : List (Part Form)) (result : Result (Bor (List Token)) Wanted) → p ≡ maybe f → BeginsWith f ts parts mid → Answered parts mid result → Answered (p ∷ []) ts result
maybe_read p f ts mid parts (Ok rest) e b h = rw e (maybe_enters f ts rest.now mid parts b h)
maybe_read p f ts mid parts (Err stop) e b h = rw e (maybe_stops f ts mid stop.left parts b h)

pub form_wanted : (p : Part Form) (f : Form) (ts : List Token) → p ≡ form f → BeginsNot f ts → StopsAt (p ∷ []) ts (length ts)
form_wanted p f ts e b = rw e (not_entered f ts b)

pub maybe_left_out : (p : Part Form) (f : Form) (ts : List Token) → p ≡ maybe f → BeginsNot f ts → ReadsTo (p ∷ []) ts ts
maybe_left_out p f ts e b = rw e (left_out f ts b)

-- ALL PARTS OF A FORM, ONE BY ONE

pub part_read : (xs : List TablePart) (i : ℕ) (d : TablePart) (rest mid : List Token) (part : Part Form) (below : List (Part Form)) → i < length xs → ReadsTo (part_of (get_or xs i d) ∷ []) rest mid
    → reading alternatives_of (parts_of (drop i xs) ++ part ∷ below) rest ≡ reading alternatives_of (parts_of (drop (i + 1) xs) ++ part ∷ below) mid
part_read xs i d rest mid part below within h =
    let next : i + 1 ≡ suc i = omega arith in
    rw next (rw (drop-cons xs i d within) (onward (part_of (get_or xs i d)) rest mid (parts_of (drop (suc i) xs)) part below h))

pub part_stops : (xs : List TablePart) (i : ℕ) (d : TablePart) (rest : List Token) (left : ℕ) (part : Part Form) (below : List (Part Form)) → i < length xs → StopsAt (part_of (get_or xs i d) ∷ []) rest left
    → reading alternatives_of (parts_of (drop i xs) ++ part ∷ below) rest ≡ wanted left
part_stops xs i d rest left part below within h = rw (drop-cons xs i d within) (stopped (part_of (get_or xs i d)) rest left (parts_of (drop (suc i) xs)) part below h)

-- UP TO THE WORD PROCEDURE

-- what is left when all parts were read is an end of the tokens
abbrev IsEnd : List Token → List Token → Type 0
IsEnd rest ts = (length rest ≤ length ts) × (rest ≡ drop (length ts - length rest) ts)

same_end : (us vs : List Token) → ends us ≡ ends vs → us ≡ vs
same_end us vs h = cc

false_is_true : false ≡ true → ⊥
false_is_true h = cc

no_end : (left : ℕ) (us : List Token) → wanted left ≡ ends us → ⊥
no_end left us h = cc

whole : (ts : List Token) → ts ≡ drop (length ts - length ts) ts
whole ts =
    let nothing : length ts - length ts ≡ 0 = omega arith in
    rw nothing refl

is_whole : (rest ts : List Token) → rest ≡ ts → IsEnd rest ts
is_whole rest ts h = rw h (omega arith, whole ts)

longer : (t : Token) (ts rest : List Token) → IsEnd rest ts → IsEnd rest (t ∷ ts)
longer t ts rest h =
    let one_more : length (t ∷ ts) - length rest ≡ suc (length ts - length rest) = omega (arith, h.0) in
    (omega (arith, h.0), rw one_more h.1)

may_end_here : (may : Bool) (rest : List Token) → (if may then ends [] else wanted 0) ≡ ends rest → IsEnd rest []
may_end_here true rest h = is_whole rest [] (same_end rest [] (sym h))
may_end_here false rest h = absurd (no_end 0 rest h)

goes_to_end : (left : Option (List (Part Form))) (t : Token) (ts rest : List Token) → goes_on left (λ parts. reading alternatives_of parts ts) (length (t ∷ ts)) ≡ ends rest
    → ((parts : List (Part Form)) → reading alternatives_of parts ts ≡ ends rest → IsEnd rest ts) → IsEnd rest (t ∷ ts)
goes_to_end None t ts rest h k = absurd (no_end (length (t ∷ ts)) rest h)
goes_to_end (Some parts) t ts rest h k = longer t ts rest (k parts h)

pub end_of_reading : (parts : List (Part Form)) (ts rest : List Token) → reading alternatives_of parts ts ≡ ends rest → IsEnd rest ts
unfolding reading
end_of_reading [] ts rest h = is_whole rest ts (same_end rest ts (sym h))
end_of_reading (part ∷ parts) [] rest h = may_end_here (may_end (part ∷ parts)) rest h
end_of_reading (part ∷ parts) (t ∷ ts) rest h = goes_to_end (next alternatives_of (part ∷ parts) t) t ts rest h (λ left. end_of_reading left ts rest)

-- the word PROCEDURE behind the parts before it
procedure_read : (rest behind : List Token) (t : Token) → rest ≡ t ∷ behind → is (reserved (codes "PROCEDURE")) t ≡ true → reading alternatives_of (token (reserved (codes "PROCEDURE")) ∷ []) rest ≡ ends behind
unfolding reading next
procedure_read rest behind t front h = rw front (rw h refl)

procedure_wanted : (rest : List Token) → begins (is (reserved (codes "PROCEDURE"))) rest ≡ false → reading alternatives_of (token (reserved (codes "PROCEDURE")) ∷ []) rest ≡ wanted (length rest)
unfolding reading next
procedure_wanted [] h = refl
procedure_wanted (t ∷ ts) h = rw h refl

pub place_of_procedure : (parts : List (Part Form)) (ts rest : List Token) → ReadsTo parts ts rest → begins (is (reserved (codes "PROCEDURE"))) rest ≡ true → length rest ≤ length ts
    → (reading alternatives_of (parts ++ token (reserved (codes "PROCEDURE")) ∷ []) ts ≡ ends (drop (length ts - length rest + 1) ts)) × (length ts - length rest < length ts)
place_of_procedure parts ts [] reads h within = absurd (false_is_true h)
place_of_procedure parts ts (t ∷ behind) reads h within =
    let read : reading alternatives_of (parts ++ token (reserved (codes "PROCEDURE")) ∷ []) ts ≡ ends behind = reads (token (reserved (codes "PROCEDURE"))) [] ∙ procedure_read (t ∷ behind) behind t refl h in
    let places : length ts - length (t ∷ behind) + 1 ≡ length ts - length behind = omega (arith, within) in
    let end : IsEnd behind ts = end_of_reading _ ts behind read in
    (rw places (read ∙ ap ends end.1), omega (arith, within))

goes_behind : (rest : List Token) → 0 < length rest → with_procedure (ends rest) ≡ ends rest
goes_behind [] h = absurd (omega (arith, h))
goes_behind (t ∷ ts) h = refl

-- with a token behind it, or none
pub one_behind : (parts : List (Part Form)) (ts rest : List Token) → ReadsTo parts ts rest → begins (is (reserved (codes "PROCEDURE"))) rest ≡ true → length rest ≤ length ts → (length rest ≡ 1 → ⊥)
    → (reading alternatives_of (parts ++ token (reserved (codes "PROCEDURE")) ∷ []) ts ≡ ends (drop (length ts - length rest + 1) ts)) × (length ts - length rest + 1 < length ts)
    × (with_procedure (reading alternatives_of (parts ++ token (reserved (codes "PROCEDURE")) ∷ []) ts) ≡ ends (drop (length ts - length rest + 1) ts))
one_behind parts ts [] reads h within some = absurd (false_is_true h)
one_behind parts ts (t ∷ []) reads h within some = absurd (some refl)
one_behind parts ts (t ∷ u ∷ behind) reads h within some =
    let read = (place_of_procedure parts ts (t ∷ u ∷ behind) reads h within).0 in
    let inside : length ts - length (t ∷ u ∷ behind) + 1 < length ts = omega (arith, within) in
    (read, inside, ap with_procedure read ∙ goes_behind (drop (length ts - length (t ∷ u ∷ behind) + 1) ts) (omega (arith, inside, length-drop (length ts - length (t ∷ u ∷ behind) + 1) ts)))

pub none_behind : (parts : List (Part Form)) (ts rest : List Token) → ReadsTo parts ts rest → begins (is (reserved (codes "PROCEDURE"))) rest ≡ true → length rest ≡ 1
    → with_procedure (reading alternatives_of (parts ++ token (reserved (codes "PROCEDURE")) ∷ []) ts) ≡ wanted 0
none_behind parts ts [] reads h one = absurd (false_is_true h)
none_behind parts ts (t ∷ []) reads h one = ap with_procedure (reads (token (reserved (codes "PROCEDURE"))) [] ∙ procedure_read (t ∷ []) [] t refl h)
none_behind parts ts (t ∷ u ∷ behind) reads h one = absurd (omega (arith, one))

pub no_procedure : (parts : List (Part Form)) (ts rest : List Token) → ReadsTo parts ts rest → begins (is (reserved (codes "PROCEDURE"))) rest ≡ false
    → with_procedure (reading alternatives_of (parts ++ token (reserved (codes "PROCEDURE")) ∷ []) ts) ≡ wanted (length rest)
no_procedure parts ts rest reads h = ap with_procedure (reads (token (reserved (codes "PROCEDURE"))) [] ∙ procedure_wanted rest h)

pub stopped_before : (parts : List (Part Form)) (ts : List Token) (left : ℕ) → StopsAt parts ts left → with_procedure (reading alternatives_of (parts ++ token (reserved (codes "PROCEDURE")) ∷ []) ts) ≡ wanted left
stopped_before parts ts left stops = ap with_procedure (stops (token (reserved (codes "PROCEDURE"))) [])
