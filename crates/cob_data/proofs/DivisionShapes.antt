-- All entries up to the word PROCEDURE have their forms.
use Rattle.std.proofs.Common.{◌≡◌, ◌≤◌, ◌<◌, ℕ, zero, suc, ◌+◌, Bool, true, false, ◌&&◌, List, [], ◌∷◌, ◌++◌, length, take, drop, Some, codes, refl, sym, ap, ◌∙◌, inl, inr, append_assoc, arith, length-append, length-drop}
use Rattle.std.specs.Prelude.{◌⊎◌}
use Rattle.std.specs.List.{AllByRecursion}
use Rattle.std.proofs.lemmas.List.{append-nil, take_at}
use Rattle.cob_lex.specs.declared.token.Token.{Token}
use Rattle.cob_lex.specs.declared.token.TokenKind.TheVariants as tokens
use Rattle.cob_forms.specs.Sorts.{Sort, any_word, is, name, of_kind, reserved}
use Rattle.cob_forms.specs.Forms.{Part, token, form, maybe, more, behind, ends, may_end, reading}
use Rattle.cob_forms.proofs.Only.{apart, differ}
use Rattle.cob_data.specs.Entries.{described, is_cd, is_item, wants_word}
use Rattle.cob_data.specs.Forms.{Form, alternatives_of, cd_entry, cd_use, communication, configuration, data_division, environment, item, object_computer, period, source_computer, the, a_name, working_storage}
use Rattle.cob_data.proofs.NumeralLaws.{both}
use Rattle.cob_data.proofs.ReadSteps.{Reads, Taken, Entered, LeftOut, Turned, Here, There, alternative, maybe_step, more_step, no_alternative, token_step}
use Rattle.cob_data.proofs.Sentences.{Parted, closes}
use Rattle.cob_data.proofs.EntryShapes.{AreEntries, IsEntry, IsSentence, IsShaped, IsUse, any_use, both_entries, cd_is_entry, cd_word, ends_period, items, no_words, nothing_read, one_entry, shorter, then_entries, to_period, with_plain, with_word}

-- CD ENTRIES

-- a form with one alternative
one_form : (sort : Sort) (own parts : List (Part Form)) (t : Token) → behind ((sort, own) ∷ []) t ≡ Some parts → (is sort t ≡ true) × (own ≡ parts)
one_form sort own parts t h = by (alternative sort own [] parts t h)
  where
    by : Here sort own parts t ⊎ There sort [] parts t → (is sort t ≡ true) × (own ≡ parts)
    by (inl here) = (here.test, here.same)
    by (inr there) = absurd (no_alternative t parts there.found)

abbrev of_cd : List (Part Form)
of_cd = a_name ∷ form cd_use ∷ more item ∷ []

-- a CD entry and its items
record OneCd (below : List (Part Form)) (ts rest : List Token) : Type 0 where
  front : List Token
  back : List Token
  whole : ts ≡ front ++ back
  some : 1 ≤ length front
  here : AreEntries front
  read : Reads below back rest

module _ (p : Part Form) (below : List (Part Form)) (e : may_end (p ∷ below) ≡ false) (rest : List Token) where
  cd_items : (ts front back : List Token) → ts ≡ front ++ back → 1 ≤ length front → IsEntry front → Parted AreEntries (p ∷ below) back rest → OneCd (p ∷ below) ts rest
  cd_items ts front back w some h others = record {
    front = front ++ others.front;
    back = others.back;
    whole = w ∙ ap (λ vs. front ++ vs) others.whole ∙ sym (append_assoc front others.front others.back);
    some = omega (arith, some, length-append front others.front);
    here = both_entries front others.front (one_entry front h) others.here;
    read = others.read;
  }

  cd_then : (ts us vs : List Token) (t named : Token) → ts ≡ t ∷ us → us ≡ named ∷ vs → is cd_word t ≡ true → is name named ≡ true → Reads (form cd_use ∷ more item ∷ p ∷ below) vs rest → OneCd (p ∷ below) ts rest
  cd_then ts us vs t named w v h k r =
      let u : Parted IsUse (more item ∷ p ∷ below) vs rest = any_use (more item ∷ p ∷ below) e rest vs r in
      cd_items ts (t ∷ named ∷ u.front) u.back (w ∙ ap (λ xs. t ∷ xs) (v ∙ ap (λ xs. named ∷ xs) u.whole)) (omega arith) (cd_is_entry t named u.front h k u.here)
      (items p below e rest (length u.back) u.back (omega arith) u.read)

  cd_read : (ts us : List Token) (t : Token) (parts : List (Part Form)) → ts ≡ t ∷ us → behind (alternatives_of cd_entry) t ≡ Some parts → Reads (parts ++ p ∷ below) us rest → OneCd (p ∷ below) ts rest
  cd_read ts us t parts w h r =
      let f = one_form cd_word of_cd parts t h in
      by f.0 (token_step name (form cd_use ∷ more item ∷ p ∷ below) us rest (rw (sym f.1) at r))
    where
      by : is cd_word t ≡ true → Taken (λ u. is name u ≡ true) (form cd_use ∷ more item ∷ p ∷ below) us rest → OneCd (p ∷ below) ts rest
      by h n = cd_then ts us n.others t n.one w n.whole h n.here n.read

module _ (p : Part Form) (below : List (Part Form)) (e : may_end (p ∷ below) ≡ false) (rest : List Token) where
  abbrev Entries : List Token → Type 0
  Entries ts = Parted AreEntries (p ∷ below) ts rest

  cds_from : (ts us : List Token) (t : Token) → ts ≡ t ∷ us → OneCd (more cd_entry ∷ p ∷ below) ts rest → ((vs : List Token) → length vs ≤ length us → Reads (more cd_entry ∷ p ∷ below) vs rest → Entries vs) → Entries ts
  cds_from ts us t w c next = then_entries (p ∷ below) rest ts c.front c.back c.whole c.here (next c.back (shorter ts us c.front c.back t w c.whole c.some) c.read)

  cds : (n : ℕ) (ts : List Token) → length ts ≤ n → Reads (more cd_entry ∷ p ∷ below) ts rest → Entries ts
  cds zero ts le h = by (more_step cd_entry p below ts rest e h)
    where
      by : Turned cd_entry (p ∷ below) ts rest ⊎ LeftOut cd_entry (p ∷ below) ts rest → Entries ts
      by (inl turned) = absurd (omega (arith, ap length turned.taken.whole, le))
      by (inr skipped) = nothing_read (p ∷ below) rest ts skipped.read
  cds (suc n) ts le h = by (more_step cd_entry p below ts rest e h) (cds n)
    where
      by : Turned cd_entry (p ∷ below) ts rest ⊎ LeftOut cd_entry (p ∷ below) ts rest → ((vs : List Token) → length vs ≤ n → Reads (more cd_entry ∷ p ∷ below) vs rest → Entries vs) → Entries ts
      by (inl turned) next =
          let t = turned.taken in
          cds_from ts t.others t.one t.whole (cd_read (more cd_entry) (p ∷ below) e rest ts t.others t.one turned.parts t.whole t.here t.read) (λ vs short r. next vs (omega (arith, short, ap length t.whole, le)) r)
      by (inr skipped) next = nothing_read (p ∷ below) rest ts skipped.read

-- HEADERS

-- neither an item nor a CD entry begins with a token of this sort
abbrev is_other : Sort → Bool
is_other s = differ s (of_kind tokens.Number) && differ s cd_word

header_shaped : (sort : Sort) (t : Token) (front : List Token) → is sort t ≡ true → is_other sort ≡ true → IsShaped (t ∷ front)
header_shaped sort t front h d =
    let all = both (differ sort (of_kind tokens.Number)) (differ sort cd_word) d in
    let no_item : is_item (t ∷ front) ≡ false = apart sort (of_kind tokens.Number) t h all.0 in
    let no_cd : is_cd (t ∷ front) ≡ false = apart sort cd_word t h all.1 in
    record { item = λ e. let wrong : ⊥ = cc in absurd wrong; cd = λ e. let wrong : ⊥ = cc in absurd wrong }

-- no word is chosen after a header that begins with this sort
abbrev is_closed : Sort → Bool
is_closed s = differ s (reserved (codes "PROGRAM-ID")) && (differ s (reserved (codes "SOURCE-COMPUTER")) && differ s (reserved (codes "OBJECT-COMPUTER")))

closed_header : (sort : Sort) (t : Token) (front : List Token) → is sort t ≡ true → is_other sort ≡ true → is_closed sort ≡ true → is period t ≡ false → IsSentence front → IsEntry (t ∷ front)
closed_header sort t front h d c l s =
    let all = both (differ sort (reserved (codes "PROGRAM-ID"))) (differ sort (reserved (codes "SOURCE-COMPUTER")) && differ sort (reserved (codes "OBJECT-COMPUTER"))) c in
    let two = both (differ sort (reserved (codes "SOURCE-COMPUTER"))) (differ sort (reserved (codes "OBJECT-COMPUTER"))) all.1 in
    record {
      sentence = with_plain t front l s;
      shaped = header_shaped sort t front h d;
      no_word = no_words t front (apart sort (reserved (codes "PROGRAM-ID")) t h all.0) (apart sort (reserved (codes "SOURCE-COMPUTER")) t h two.0) (apart sort (reserved (codes "OBJECT-COMPUTER")) t h two.1);
    }

-- a header of these parts is one entry
module _ (below : List (Part Form)) (e : may_end below ≡ false) (rest : List Token) where
  abbrev Read : List Token → Type 0
  Read ts = Parted AreEntries below ts rest

  header_read : (sort : Sort) (n : ℕ) (parts : List (Part Form)) (ts us : List Token) (t : Token) → ts ≡ t ∷ us → is sort t ≡ true → is_other sort ≡ true → is_closed sort ≡ true → differ sort period ≡ true
      → closes (λ s. differ s period) ends_period n parts ≡ true → Reads (parts ++ below) us rest → Read ts
  header_read sort n parts ts us t w h d c l k r =
      let p : Parted IsSentence below us rest = to_period n parts below us rest k e r in
      record {
        front = t ∷ p.front;
        back = p.back;
        whole = w ∙ ap (λ vs. t ∷ vs) p.whole;
        here = one_entry (t ∷ p.front) (closed_header sort t p.front h d c (apart sort period t h l) p.here);
        read = p.read;
      }

-- HEADERS AFTER WHICH A WORD IS CHOSEN

program_wants : (t : Token) (front : List Token) → is (reserved (codes "PROGRAM-ID")) t ≡ true → wants_word (t ∷ front) ≡ true
program_wants t front h = rw h refl

source_wants : (t : Token) (front : List Token) → is (reserved (codes "SOURCE-COMPUTER")) t ≡ true → wants_word (t ∷ front) ≡ true
source_wants t front h = rw (apart (reserved (codes "SOURCE-COMPUTER")) (reserved (codes "PROGRAM-ID")) t h refl, h) refl

object_wants : (t : Token) (front : List Token) → is (reserved (codes "OBJECT-COMPUTER")) t ≡ true → wants_word (t ∷ front) ≡ true
object_wants t front h = rw (apart (reserved (codes "OBJECT-COMPUTER")) (reserved (codes "PROGRAM-ID")) t h refl, apart (reserved (codes "OBJECT-COMPUTER")) (reserved (codes "SOURCE-COMPUTER")) t h refl, h) refl

abbrev chosen : List (Part Form)
chosen = token period ∷ token any_word ∷ token period ∷ []

one_period : (t : Token) → is period t ≡ true → IsSentence (t ∷ [])
one_period t h = record { body = []; end = t; whole = refl; passes = refl; closed = h }

module _ (below : List (Part Form)) (rest : List Token) where
  word_read : (sort : Sort) (ts us : List Token) (t : Token) → ts ≡ t ∷ us → is sort t ≡ true → is_other sort ≡ true → differ sort period ≡ true → ((front : List Token) → wants_word (t ∷ front) ≡ true) → Reads (chosen ++ below) us rest → Parted AreEntries below ts rest
  word_read sort ts us t w h d l wants r =
      let dot = token_step period (token any_word ∷ token period ∷ below) us rest r in
      let word = token_step any_word (token period ∷ below) dot.others rest dot.read in
      let end = token_step period below word.others rest word.read in
      let header : IsSentence (t ∷ dot.one ∷ []) = with_plain t (dot.one ∷ []) (apart sort period t h l) (one_period dot.one dot.here) in
      let said : IsSentence (word.one ∷ end.one ∷ []) = with_plain word.one (end.one ∷ []) (apart any_word period word.one word.here refl) (one_period end.one end.here) in
      record {
        front = t ∷ dot.one ∷ word.one ∷ end.one ∷ [];
        back = end.others;
        whole = w ∙ ap (λ vs. t ∷ vs) (dot.whole ∙ ap (λ vs. dot.one ∷ vs) (word.whole ∙ ap (λ vs. word.one ∷ vs) end.whole));
        here = with_word (t ∷ dot.one ∷ []) (word.one ∷ end.one ∷ []) header said (header_shaped sort t (dot.one ∷ []) h d) (wants (dot.one ∷ []));
        read = end.read;
      }

-- THE DIVISIONS FROM THE LAST BACK TO THE FIRST

abbrev from_procedure : List (Part Form)
from_procedure = the (codes "PROCEDURE") ∷ []

abbrev from_communication : List (Part Form)
from_communication = maybe communication ∷ from_procedure

abbrev from_storage : List (Part Form)
from_storage = maybe working_storage ∷ from_communication

abbrev from_data : List (Part Form)
from_data = the (codes "DATA") ∷ the (codes "DIVISION") ∷ token period ∷ from_storage

abbrev from_object : List (Part Form)
from_object = maybe object_computer ∷ from_data

abbrev from_source : List (Part Form)
from_source = maybe source_computer ∷ from_object

abbrev from_configuration : List (Part Form)
from_configuration = maybe configuration ∷ from_data

abbrev from_environment : List (Part Form)
from_environment = maybe environment ∷ from_data

abbrev from_program : List (Part Form)
from_program = the (codes "PROGRAM-ID") ∷ chosen ++ from_environment

module _ (rest : List Token) where
  -- the entries up to the word PROCEDURE
  abbrev Divided : List Token → Type 0
  Divided ts = Parted AreEntries from_procedure ts rest

  after : (below : List (Part Form)) (ts : List Token) → Parted AreEntries below ts rest → ((us : List Token) → Reads below us rest → Divided us) → Divided ts
  after below ts p next = then_entries from_procedure rest ts p.front p.back p.whole p.here (next p.back p.read)

  optional : (f : Form) (sort : Sort) (own : List (Part Form)) (p : Part Form) (below : List (Part Form)) (ts : List Token) → alternatives_of f ≡ (sort, own) ∷ [] → may_end (p ∷ below) ≡ false → Reads (maybe f ∷ p ∷ below) ts rest
      → ((t : Token) (us : List Token) → ts ≡ t ∷ us → is sort t ≡ true → Reads (own ++ p ∷ below) us rest → Divided ts) → (Reads (p ∷ below) ts rest → Divided ts) → Divided ts
  optional f sort own p below ts same e r here skipped = by (maybe_step f p below ts rest e r)
    where
      entered : (parts : List (Part Form)) (t : Token) (us : List Token) → ts ≡ t ∷ us → behind (alternatives_of f) t ≡ Some parts → Reads (parts ++ p ∷ below) us rest → Divided ts
      entered parts t us w h r = let o = one_form sort own parts t (ap (λ list. behind list t) (sym same) ∙ h) in here t us w o.0 (rw (sym o.1) at r)

      by : Entered f (p ∷ below) ts rest ⊎ LeftOut f (p ∷ below) ts rest → Divided ts
      by (inl f) = entered f.parts f.taken.one f.taken.others f.taken.whole f.taken.here f.taken.read
      by (inr l) = skipped l.read

  abbrev section_of : List (Part Form)
  section_of = the (codes "SECTION") ∷ token period ∷ []

  abbrev division_of : List (Part Form)
  division_of = the (codes "DIVISION") ∷ token period ∷ []

  communication_read : (ts : List Token) → Reads from_communication ts rest → Divided ts
  communication_read ts r =
      optional communication (reserved (codes "COMMUNICATION")) (the (codes "SECTION") ∷ token period ∷ more cd_entry ∷ []) (the (codes "PROCEDURE")) [] ts refl refl r
      (λ t us w h k. after (more cd_entry ∷ from_procedure) ts (header_read (more cd_entry ∷ from_procedure) refl rest (reserved (codes "COMMUNICATION")) 2 section_of ts us t w h refl refl refl refl k)
      (λ vs l. cds (the (codes "PROCEDURE")) [] refl rest (length vs) vs (omega arith) l))
      (λ k. nothing_read from_procedure rest ts k)

  storage_read : (ts : List Token) → Reads from_storage ts rest → Divided ts
  storage_read ts r =
      optional working_storage (reserved (codes "WORKING-STORAGE")) (the (codes "SECTION") ∷ token period ∷ more item ∷ []) (maybe communication) from_procedure ts refl refl r
      (λ t us w h k. after (more item ∷ from_communication) ts (header_read (more item ∷ from_communication) refl rest (reserved (codes "WORKING-STORAGE")) 2 section_of ts us t w h refl refl refl refl k)
      (λ vs l. after from_communication vs (items (maybe communication) from_procedure refl rest (length vs) vs (omega arith) l) communication_read))
      (communication_read ts)

  data_read : (ts : List Token) → Reads from_data ts rest → Divided ts
  data_read ts r =
      let t = token_step (reserved (codes "DATA")) (division_of ++ from_storage) ts rest r in
      after from_storage ts (header_read from_storage refl rest (reserved (codes "DATA")) 2 division_of ts t.others t.one t.whole t.here refl refl refl refl t.read) storage_read

  object_read : (ts : List Token) → Reads from_object ts rest → Divided ts
  object_read ts r =
      optional object_computer (reserved (codes "OBJECT-COMPUTER")) chosen (the (codes "DATA")) (division_of ++ from_storage) ts refl refl r
      (λ t us w h k. after from_data ts (word_read from_data rest (reserved (codes "OBJECT-COMPUTER")) ts us t w h refl refl (λ front. object_wants t front h) k) data_read)
      (data_read ts)

  source_read : (ts : List Token) → Reads from_source ts rest → Divided ts
  source_read ts r =
      optional source_computer (reserved (codes "SOURCE-COMPUTER")) chosen (maybe object_computer) from_data ts refl refl r
      (λ t us w h k. after from_object ts (word_read from_object rest (reserved (codes "SOURCE-COMPUTER")) ts us t w h refl refl (λ front. source_wants t front h) k) object_read)
      (object_read ts)

  configuration_read : (ts : List Token) → Reads from_configuration ts rest → Divided ts
  configuration_read ts r =
      optional configuration (reserved (codes "CONFIGURATION")) (the (codes "SECTION") ∷ token period ∷ maybe source_computer ∷ maybe object_computer ∷ []) (the (codes "DATA")) (division_of ++ from_storage) ts refl refl r
      (λ t us w h k. after from_source ts (header_read from_source refl rest (reserved (codes "CONFIGURATION")) 2 section_of ts us t w h refl refl refl refl k) source_read)
      (data_read ts)

  environment_read : (ts : List Token) → Reads from_environment ts rest → Divided ts
  environment_read ts r =
      optional environment (reserved (codes "ENVIRONMENT")) (the (codes "DIVISION") ∷ token period ∷ maybe configuration ∷ []) (the (codes "DATA")) (division_of ++ from_storage) ts refl refl r
      (λ t us w h k. after from_configuration ts (header_read from_configuration refl rest (reserved (codes "ENVIRONMENT")) 2 division_of ts us t w h refl refl refl refl k) configuration_read)
      (data_read ts)

  program_read : (ts : List Token) → Reads from_program ts rest → Divided ts
  program_read ts r =
      let t = token_step (reserved (codes "PROGRAM-ID")) (chosen ++ from_environment) ts rest r in
      after from_environment ts (word_read from_environment rest (reserved (codes "PROGRAM-ID")) ts t.others t.one t.whole t.here refl refl (λ front. program_wants t.one front t.here) t.read) environment_read

  division_read : (ts : List Token) → Reads data_division ts rest → Divided ts
  division_read ts r =
      let t = token_step (reserved (codes "IDENTIFICATION")) (division_of ++ from_program) ts rest r in
      after from_program ts (header_read from_program refl rest (reserved (codes "IDENTIFICATION")) 2 division_of ts t.others t.one t.whole t.here refl refl refl refl t.read) program_read

-- THE ENTRIES BEFORE THE WORD PROCEDURE

same_rest : (us vs : List Token) → ends us ≡ ends vs → us ≡ vs
same_rest us vs h = cc

all_read : (us rest : List Token) → Reads [] us rest → us ≡ rest
unfolding reading
all_read us rest r = same_rest us rest r

front_shaped : (front : List Token) → AreEntries front → AllByRecursion IsShaped (described front)
front_shaped front e =
    let whole : described front ≡ e.list = ap described (sym (append-nil front)) ∙ e.described [] ∙ append-nil e.list in
    rw whole e.shaped

same_front : (ts front rest : List Token) (one : Token) (place : ℕ) → ts ≡ front ++ one ∷ rest → place < length ts → rest ≡ drop (place + 1) ts → take place ts ≡ front
same_front ts front rest one place w within end =
    let size : length front ≡ place = omega (arith, ap length w, length-append front (one ∷ rest), ap length end, length-drop (place + 1) ts, within) in
    ap (λ n. take n ts) (sym size) ∙ ap (take (length front)) w ∙ take_at front (one ∷ rest) (length front) refl

pub shaped_entries : (ts : List Token) (place : ℕ) → place < length ts → Reads data_division ts (drop (place + 1) ts) → AllByRecursion IsShaped (described (take place ts))
shaped_entries ts place within r = by (division_read (drop (place + 1) ts) ts r)
  where
    two : (front back : List Token) → ts ≡ front ++ back → AreEntries front → Taken (λ t. is (reserved (codes "PROCEDURE")) t ≡ true) [] back (drop (place + 1) ts) → AllByRecursion IsShaped (described (take place ts))
    two front back w e t =
        let end : t.others ≡ drop (place + 1) ts = all_read t.others (drop (place + 1) ts) t.read in
        let whole : ts ≡ front ++ t.one ∷ drop (place + 1) ts = w ∙ ap (λ us. front ++ us) (t.whole ∙ ap (λ us. t.one ∷ us) end) in
        rw (same_front ts front (drop (place + 1) ts) t.one place whole within refl) (front_shaped front e)

    by : Divided (drop (place + 1) ts) ts → AllByRecursion IsShaped (described (take place ts))
    by p = two p.front p.back p.whole p.here (token_step (reserved (codes "PROCEDURE")) [] p.back (drop (place + 1) ts) p.read)
