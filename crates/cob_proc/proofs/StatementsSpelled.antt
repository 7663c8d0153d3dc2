-- What the readers of statements find is spelled so.
use Rattle.std.proofs.Common.{ℕ, Bool, true, false, List, Option, Some, None, refl, inl, inr, codes}
use Rattle.std.specs.Bool.{if◌then◌else◌}
use Rattle.cob_lex.specs.declared.token.Token.{Token}
use Rattle.cob_lex.specs.declared.token.TokenKind.TheVariants as tokens
use Rattle.cob_forms.specs.declared.written.Name.{Name}
use Rattle.cob_forms.specs.Sorts.{is, name, of_kind, reserved}
use Rattle.cob_forms.specs.Readers.{at, begins, found, ◌>>◌}
use Rattle.cob_forms.specs.Spelling.{Spelling, ◌⊙◌, word, maybe_word, written, either}
use Rattle.cob_proc.specs.declared.tree.Addend.{Addend}
use Rattle.cob_proc.specs.declared.tree.Addend.TheVariants as addends
use Rattle.cob_proc.specs.declared.tree.Ending.{Ending}
use Rattle.cob_proc.specs.declared.tree.Identifier.{Identifier}
use Rattle.cob_proc.specs.declared.tree.Indicator.TheVariants as indicators
use Rattle.cob_proc.specs.declared.tree.Key.{Key}
use Rattle.cob_proc.specs.declared.tree.Lines.TheVariants as lines
use Rattle.cob_proc.specs.declared.tree.Repetition.TheVariants as repetitions
use Rattle.cob_proc.specs.Forms as forms
use Rattle.cob_proc.specs.Forms.{alternatives_of}
use Rattle.cob_proc.specs.Spelled.{begins_form, IsAddend, IsThrough, IsRepetition, IsIndicator, IsLines, IsAdvancing, IsEnding, IsSent, is_switch, is_keyed, IsPlain}
use Rattle.cob_proc.specs.Trees.{moves, adds, subtracts, performs, goes, exits, stops, sends, accepts}
use Rattle.cob_proc.specs.PartReaders as parts
use Rattle.cob_proc.specs.StatementReaders as statements
use Rattle.cob_forms.proofs.Only.{none_starts}
use Rattle.cob_forms.proofs.Spelled.{Finds, by_test, end, maybe_found, name_found, number_found, one_of_two, optional_found, perhaps_found, step, weaker, word_found}
use Rattle.cob_proc.proofs.PartsSpelled.{addend_found, condition_found, identifier_found, identifiers_found, key_found, operand_found}

move_found : (ts : List Token) → Finds (statements.read_move ts) (λ s rest. IsPlain s ts rest)
unfolding statements.read_move
move_found ts = step (word_found (reserved (codes "MOVE")) ts) (λ _ m h. step (operand_found m) (λ source m2 h2. step (word_found (reserved (codes "TO")) m2) (λ _ m3 h3. step (identifiers_found m3)
    (λ targets m4 h4. end (λ s rest. IsPlain s ts rest) (moves source targets) m4 (m, h, (m2, h2, (m3, h3, h4)))))))

add_found : (ts : List Token) → Finds (statements.read_add ts) (λ s rest. IsPlain s ts rest)
unfolding statements.read_add
add_found ts = step (word_found (reserved (codes "ADD")) ts) (λ _ m h. step (addend_found m) (λ what m2 h2. step (word_found (reserved (codes "TO")) m2) (λ _ m3 h3. step (identifier_found m3)
    (λ target m4 h4. end (λ s rest. IsPlain s ts rest) (adds what target) m4 (m, h, (m2, h2, (m3, h3, h4)))))))

subtract_found : (ts : List Token) → Finds (statements.read_subtract ts) (λ s rest. IsPlain s ts rest)
unfolding statements.read_subtract
subtract_found ts = step (word_found (reserved (codes "SUBTRACT")) ts) (λ _ m h. step (addend_found m) (λ what m2 h2. step (word_found (reserved (codes "FROM")) m2) (λ _ m3 h3. step (identifier_found m3)
    (λ target m4 h4. end (λ s rest. IsPlain s ts rest) (subtracts what target) m4 (m, h, (m2, h2, (m3, h3, h4)))))))

-- PERFORM
through_found : (ts : List Token) → Finds (statements.through ts) (λ last rest. IsThrough last ts rest)
unfolding statements.through
through_found ts = step {P = λ _ rest. either (word (codes "THRU")) (word (codes "THROUGH")) ts rest}
    (one_of_two _ (weaker (word_found (reserved (codes "THRU")) ts) (λ _ rest h. inl h)) (weaker (word_found (reserved (codes "THROUGH")) ts) (λ _ rest h. inr h)))
    (λ _ m h. weaker (name_found m) (λ last rest k. (m, h, k)))

times_found : (count : Addend) (ts m : List Token) → IsAddend count ts m → Finds (statements.times count m) (λ r rest. IsRepetition r ts rest)
unfolding statements.times
times_found count ts m h = step (word_found (reserved (codes "TIMES")) m) (λ _ m2 h2. end (λ r rest. IsRepetition r ts rest) (repetitions.Times count) m2 (m, h, h2))

repetition_found : (ts : List Token) → Finds (statements.repetition ts) (λ r rest. IsRepetition r ts rest)
unfolding statements.repetition
repetition_found ts =
    by_test (begins (is name) ts) (λ _. step (identifier_found ts) (λ item m h. times_found (addends.Item item) ts m h))
    (λ a. by_test (begins (is (of_kind tokens.Number)) ts) (λ _. step (number_found ts) (λ number m h. times_found (addends.Number number) ts m h))
    (λ b. by_test (begins (is (reserved (codes "UNTIL"))) ts) (λ _. step (word_found (reserved (codes "UNTIL")) ts) (λ _ m h. step (condition_found m) (λ tested m2 h2. end (λ r rest. IsRepetition r ts rest) (repetitions.Until tested) m2 (m, h, h2))))
    (λ c. end (λ r rest. IsRepetition r ts rest) repetitions.Once ts (refl, none_starts (alternatives_of forms.repetition) ts (a, (b, (c, tt)))))))

perform_found : (ts : List Token) → Finds (statements.read_perform ts) (λ s rest. IsPlain s ts rest)
unfolding statements.read_perform
perform_found ts = step (word_found (reserved (codes "PERFORM")) ts) (λ _ m h. step (name_found m) (λ first m2 h2. step (maybe_found (begins_form forms.through) statements.through IsThrough m2 (through_found m2)) (λ last m3 h3. step (repetition_found m3)
    (λ how m4 h4. end (λ s rest. IsPlain s ts rest) (performs first last how) m4 (m, h, (m2, h2, (m3, h3, h4)))))))

go_found : (ts : List Token) → Finds (statements.read_go ts) (λ s rest. IsPlain s ts rest)
unfolding statements.read_go
go_found ts = step (word_found (reserved (codes "GO")) ts) (λ _ m h. step (perhaps_found (reserved (codes "TO")) m) (λ _ m2 h2. step (name_found m2) (λ target m3 h3. end (λ s rest. IsPlain s ts rest) (goes target) m3 (m, h, (m2, h2, h3)))))

exit_found : (ts : List Token) → Finds (statements.read_exit ts) (λ s rest. IsPlain s ts rest)
unfolding statements.read_exit
exit_found ts = step (word_found (reserved (codes "EXIT")) ts) (λ _ m h. end (λ s rest. IsPlain s ts rest) exits m h)

stop_found : (ts : List Token) → Finds (statements.read_stop ts) (λ s rest. IsPlain s ts rest)
unfolding statements.read_stop
stop_found ts = step (word_found (reserved (codes "STOP")) ts) (λ _ m h. step (word_found (reserved (codes "RUN")) m) (λ _ m2 h2. end (λ s rest. IsPlain s ts rest) stops m2 (m, h, h2)))

-- SEND: ESI, EMI or EGI, behind a WITH or not
mark_found : (ts m : List Token) → maybe_word (codes "WITH") ts m → Finds (statements.mark m) (λ i rest. IsIndicator i ts rest)
unfolding statements.mark
mark_found ts m w =
    one_of_two _ (step (word_found (reserved (codes "ESI")) m) (λ _ m2 h. end (λ i rest. IsIndicator i ts rest) indicators.Esi m2 (m, w, h)))
    (one_of_two _ (step (word_found (reserved (codes "EMI")) m) (λ _ m2 h. end (λ i rest. IsIndicator i ts rest) indicators.Emi m2 (m, w, h)))
    (step (word_found (reserved (codes "EGI")) m) (λ _ m2 h. end (λ i rest. IsIndicator i ts rest) indicators.Egi m2 (m, w, h))))

indicator_found : (ts : List Token) → Finds (statements.indicator ts) (λ i rest. IsIndicator i ts rest)
unfolding statements.indicator statements.with_what
indicator_found ts = by_test (begins (is (reserved (codes "WITH"))) ts)
    (λ _. step (word_found (reserved (codes "WITH")) ts) (λ _ m h. one_of_two _ (step (identifier_found m) (λ item m2 h2. end (λ i rest. IsIndicator i ts rest) (indicators.Item item) m2 (m, h, h2))) (mark_found ts m (inr h))))
    (λ b. mark_found ts ts (inl (refl, b)))

count_found : (count : Addend) (ts m : List Token) → IsAddend count ts m → Finds (statements.perhaps_lines (lines.Count count) m) (λ l rest. IsLines l ts rest)
unfolding statements.perhaps_lines
count_found count ts m h =
    by_test (begins (is (reserved (codes "LINE"))) m) (λ _. step (word_found (reserved (codes "LINE")) m) (λ _ m2 h2. end (λ l rest. IsLines l ts rest) (lines.Count count) m2 (m, h, inr (inl h2))))
    (λ b. by_test (begins (is (reserved (codes "LINES"))) m) (λ _. step (word_found (reserved (codes "LINES")) m) (λ _ m2 h2. end (λ l rest. IsLines l ts rest) (lines.Count count) m2 (m, h, inr (inr h2))))
    (λ c. end (λ l rest. IsLines l ts rest) (lines.Count count) m (m, h, inl (refl, none_starts (alternatives_of forms.line_word) m (b, (c, tt))))))

lines_found : (ts : List Token) → Finds (statements.lines_or_page ts) (λ l rest. IsLines l ts rest)
unfolding statements.lines_or_page
lines_found ts =
    one_of_two _ (step (identifier_found ts) (λ item m h. count_found (addends.Item item) ts m h))
    (one_of_two _ (step (number_found ts) (λ number m h. count_found (addends.Number number) ts m h))
    (step (word_found (reserved (codes "PAGE")) ts) (λ _ m h. end (λ l rest. IsLines l ts rest) lines.Page m h)))

advanced_found : (ts : List Token) → Finds (statements.advanced ts) (λ l rest. (maybe_word (codes "ADVANCING") ⊙ IsLines l) ts rest)
unfolding statements.advanced
advanced_found ts = step (perhaps_found (reserved (codes "ADVANCING")) ts) (λ _ m h. weaker (lines_found m) (λ l rest k. (m, h, k)))

-- BEFORE or AFTER
abbrev IsWay : Bool → Spelling
IsWay after = word (if after then codes "AFTER" else codes "BEFORE")

way_found : (ts : List Token) → Finds (at (is (reserved (codes "BEFORE"))) (parts.word (codes "BEFORE") >> found false) (parts.word (codes "AFTER") >> found true) ts) (λ after rest. IsWay after ts rest)
way_found ts = one_of_two _ (step (word_found (reserved (codes "BEFORE")) ts) (λ _ m h. end (λ after rest. IsWay after ts rest) false m h)) (step (word_found (reserved (codes "AFTER")) ts) (λ _ m h. end (λ after rest. IsWay after ts rest) true m h))

pub advancing_found : (ts : List Token) → Finds (statements.advancing ts) (λ x rest. IsAdvancing x ts rest)
unfolding statements.advancing
advancing_found ts = step (way_found ts) (λ after m h. step (advanced_found m) (λ count m2 h2. end (λ x rest. IsAdvancing x ts rest) (record { after = after; lines = count }) m2 (m, h, h2)))

pub ending_found : (ts : List Token) → Finds (statements.ending ts) (λ x rest. IsEnding x ts rest)
unfolding statements.ending
ending_found ts = step (indicator_found ts) (λ what m h. step (maybe_found (begins_form forms.advancing) statements.advancing IsAdvancing m (advancing_found m))
    (λ how m2 h2. end (λ x rest. IsEnding x ts rest) (record { indicator = what; advancing = how }) m2 (m, h, h2)))

sent_found : (ts : List Token) → Finds (statements.sent ts) (λ x rest. IsSent x.0 x.1 ts rest)
unfolding statements.sent
sent_found ts = one_of_two _
    (step (word_found (reserved (codes "FROM")) ts) (λ _ m h. step (identifier_found m) (λ item m2 h2. step (maybe_found (begins_form forms.ending) statements.ending IsEnding m2 (ending_found m2))
    (λ e m3 h3. end (λ (x : Option Identifier × Option Ending) rest. IsSent x.0 x.1 ts rest) (Some item, e) m3 (m, h, (m2, h2, h3))))))
    (step (ending_found ts) (λ e m h. end (λ (x : Option Identifier × Option Ending) rest. IsSent x.0 x.1 ts rest) (None, Some e) m h))

send_found : (ts : List Token) → Finds (statements.read_send ts) (λ s rest. IsPlain s ts rest)
unfolding statements.read_send
send_found ts = step (word_found (reserved (codes "SEND")) ts) (λ _ m h. step (name_found m) (λ cd m2 h2. step (sent_found m2) (λ x m3 h3. end (λ s rest. IsPlain s ts rest) (sends cd x.0 x.1) m3 (m, h, (m2, h2, h3)))))

-- ENABLE, DISABLE and ACCEPT
abbrev pub IsSwitched : Option Bool → Spelling
IsSwitched (Some terminal) = word (codes "INPUT") ⊙ written terminal (reserved (codes "TERMINAL"))
IsSwitched None = word (codes "OUTPUT")

switched_found : (ts : List Token) → Finds (statements.switched ts) (λ x rest. IsSwitched x ts rest)
unfolding statements.switched
switched_found ts = one_of_two _
    (step (word_found (reserved (codes "INPUT")) ts) (λ _ m h. step (optional_found (reserved (codes "TERMINAL")) m) (λ terminal m2 h2. end (λ x rest. IsSwitched x ts rest) (Some terminal) m2 (m, h, h2))))
    (step (word_found (reserved (codes "OUTPUT")) ts) (λ _ m h. end (λ x rest. IsSwitched x ts rest) None m h))

switch_spelled : (on : Bool) (which : Option Bool) (cd : Name) (value : Key) (ts m m2 rest : List Token) → is_switch on ts m → IsSwitched which m m2 → is_keyed cd value m2 rest → IsPlain (statements.switches on which cd value) ts rest
switch_spelled on (Some terminal) cd value ts m m2 rest h s k = (m, h, (s.0, s.1, (m2, s.2, k)))
switch_spelled on None cd value ts m m2 rest h s k = (m, h, (m2, s, k))

switch_found : (text : List ℕ) (on : Bool) (ts : List Token) → ((rest : List Token) → word text ts rest → is_switch on ts rest) → Finds (statements.read_switch text on ts) (λ s rest. IsPlain s ts rest)
unfolding statements.read_switch
switch_found text on ts same = step (word_found (reserved text) ts) (λ _ m h. step (switched_found m) (λ which m2 s. step (name_found m2) (λ cd m3 h3. step (perhaps_found (reserved (codes "WITH")) m3) (λ _ m4 h4. step (word_found (reserved (codes "KEY")) m4) (λ _ m5 h5. step (key_found m5)
    (λ value m6 h6. end (λ s rest. IsPlain s ts rest) (statements.switches on which cd value) m6 (switch_spelled on which cd value ts m m2 m6 (same m h) s (m3, h3, (m4, h4, (m5, h5, h6))))))))))

accept_found : (ts : List Token) → Finds (statements.read_accept ts) (λ s rest. IsPlain s ts rest)
unfolding statements.read_accept
accept_found ts = step (word_found (reserved (codes "ACCEPT")) ts) (λ _ m h. step (name_found m) (λ cd m2 h2. step (perhaps_found (reserved (codes "MESSAGE")) m2) (λ _ m3 h3. step (word_found (reserved (codes "COUNT")) m3) (λ _ m4 h4. end (λ s rest. IsPlain s ts rest) (accepts cd) m4 (m, h, (m2, h2, (m3, h3, h4)))))))

pub plain_found : (ts : List Token) → Finds (statements.read_plain ts) (λ s rest. IsPlain s ts rest)
unfolding statements.read_plain
plain_found ts =
    one_of_two _ (move_found ts) (one_of_two _ (add_found ts) (one_of_two _ (subtract_found ts) (one_of_two _ (perform_found ts) (one_of_two _ (go_found ts) (one_of_two _ (exit_found ts) (one_of_two _ (stop_found ts) (one_of_two _ (send_found ts)
    (one_of_two _ (switch_found (codes "ENABLE") true ts (λ rest h. h)) (one_of_two _ (switch_found (codes "DISABLE") false ts (λ rest h. h)) (accept_found ts))))))))))
