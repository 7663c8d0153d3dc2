-- What is spelled as a statement in which no others stand is read so.
use Rattle.std.proofs.Common.{◌≡◌, ℕ, Bool, true, false, List, length, Option, Some, None, Ok, refl, sym, ap, ◌∙◌, inl, inr, arith, codes}
use Rattle.cob_lex.specs.declared.token.Token.{Token}
use Rattle.cob_lex.specs.declared.token.TokenKind.TheVariants as tokens
use Rattle.cob_forms.specs.declared.written.Name.{Name}
use Rattle.cob_forms.specs.Sorts.{is, name, of_kind, reserved}
use Rattle.cob_forms.specs.Readers.{begins}
use Rattle.cob_forms.specs.Spelling.{◌⊙◌, a, word, maybe_word}
use Rattle.cob_proc.specs.declared.tree.Addend.{Addend}
use Rattle.cob_proc.specs.declared.tree.Addend.TheVariants as addends
use Rattle.cob_proc.specs.declared.tree.Advancing.{Advancing}
use Rattle.cob_proc.specs.declared.tree.Ending.{Ending}
use Rattle.cob_proc.specs.declared.tree.Identifier.{Identifier}
use Rattle.cob_proc.specs.declared.tree.Indicator.{Indicator}
use Rattle.cob_proc.specs.declared.tree.Indicator.TheVariants as indicators
use Rattle.cob_proc.specs.declared.tree.Key.{Key}
use Rattle.cob_proc.specs.declared.tree.Lines.{Lines}
use Rattle.cob_proc.specs.declared.tree.Lines.TheVariants as lines
use Rattle.cob_proc.specs.declared.tree.Operand.{Operand}
use Rattle.cob_proc.specs.declared.tree.Repetition.{Repetition}
use Rattle.cob_proc.specs.declared.tree.Repetition.TheVariants as repetitions
use Rattle.cob_proc.specs.Forms as forms
use Rattle.cob_proc.specs.Forms.{alternatives_of}
use Rattle.cob_proc.specs.Spelled.{begins_form, IsThrough, IsRepetition, IsIndicator, line_or_lines, IsLines, IsAdvancing, IsEnding, IsSent, is_keyed, IsPlain}
use Rattle.cob_proc.specs.Trees.{Plain, moves, adds, subtracts, performs, goes, exits, stops, sends, switches_input, switches_output, accepts}
use Rattle.cob_proc.specs.StatementReaders as statements
use Rattle.cob_forms.proofs.Only.{begins_other, begun, differ, is_next, maybe_ok, name_ok, not_next, number_ok, perhaps_ok, starts_none, word_ok, written_ok}
use Rattle.cob_proc.proofs.FormsAgree.{opens_advancing, opens_ending, opens_through}
use Rattle.cob_proc.proofs.PartsOnly.{addend_ok, condition_ok, identified, identifier_ok, identifiers_ok, key_ok, numbered, operand_ok}
use Rattle.cob_proc.proofs.StatementsSpelled.{IsSwitched}

move_ok : (source : Operand) (targets : List Identifier) (ts rest : List Token) → IsPlain (moves source targets) ts rest → statements.read_move ts ≡ Ok (moves source targets, rest)
unfolding statements.read_move
move_ok source targets ts rest (m, w, (m2, h, (m3, t, k))) = rw (word_ok (reserved (codes "MOVE")) w.0 ts m w.1, operand_ok source m m2 h, word_ok (reserved (codes "TO")) t.0 m2 m3 t.1, identifiers_ok targets m3 rest k) refl

add_ok : (what : Addend) (target : Identifier) (ts rest : List Token) → IsPlain (adds what target) ts rest → statements.read_add ts ≡ Ok (adds what target, rest)
unfolding statements.read_add
add_ok what target ts rest (m, w, (m2, h, (m3, t, k))) = rw (word_ok (reserved (codes "ADD")) w.0 ts m w.1, addend_ok what m m2 h, word_ok (reserved (codes "TO")) t.0 m2 m3 t.1, identifier_ok target m3 rest k) refl

subtract_ok : (what : Addend) (target : Identifier) (ts rest : List Token) → IsPlain (subtracts what target) ts rest → statements.read_subtract ts ≡ Ok (subtracts what target, rest)
unfolding statements.read_subtract
subtract_ok what target ts rest (m, w, (m2, h, (m3, t, k))) = rw (word_ok (reserved (codes "SUBTRACT")) w.0 ts m w.1, addend_ok what m m2 h, word_ok (reserved (codes "FROM")) t.0 m2 m3 t.1, identifier_ok target m3 rest k) refl

-- PERFORM
through_ok : (last : Name) (ts rest : List Token) → IsThrough last ts rest → statements.through ts ≡ Ok (last, rest)
unfolding statements.through
through_ok last ts rest (m, inl w, h) = rw (is_next (reserved (codes "THRU")) w.0 ts m w.1, word_ok (reserved (codes "THRU")) w.0 ts m w.1, name_ok last m rest h) refl
through_ok last ts rest (m, inr w, h) = rw (not_next (reserved (codes "THROUGH")) (reserved (codes "THRU")) w.0 ts m w.1 refl, word_ok (reserved (codes "THROUGH")) w.0 ts m w.1, name_ok last m rest h) refl

times_ok : (count : Addend) (ts rest : List Token) → word (codes "TIMES") ts rest → statements.times count ts ≡ Ok (repetitions.Times count, rest)
unfolding statements.times
times_ok count ts rest w = rw (word_ok (reserved (codes "TIMES")) w.0 ts rest w.1) refl

repetition_ok : (r : Repetition) (ts rest : List Token) → IsRepetition r ts rest → statements.repetition ts ≡ Ok (r, rest)
unfolding statements.repetition
repetition_ok repetitions.Once ts rest u =
    let none = starts_none (alternatives_of forms.repetition) rest u.1 in
    let a : begins (is name) ts ≡ false = rw (← u.0) none.0 in
    let b : begins (is (of_kind tokens.Number)) ts ≡ false = rw (← u.0) none.1.0 in
    let c : begins (is (reserved (codes "UNTIL"))) ts ≡ false = rw (← u.0) none.1.1.0 in
    rw (a, b, c) (ap (λ r. Ok (repetitions.Once, r)) (sym u.0))
repetition_ok (repetitions.Times (addends.Item i)) ts rest (m, h, w) = rw (identified i ts m h, identifier_ok i ts m h) (times_ok (addends.Item i) m rest w)
repetition_ok (repetitions.Times (addends.Number x)) ts rest (m, h, w) =
    rw (begins_other (of_kind tokens.Number) name ts (numbered x ts m h) refl, numbered x ts m h, number_ok x ts m h) (times_ok (addends.Number x) m rest w)
repetition_ok (repetitions.Until c) ts rest (m, w, h) =
    rw (not_next (reserved (codes "UNTIL")) name w.0 ts m w.1 refl, not_next (reserved (codes "UNTIL")) (of_kind tokens.Number) w.0 ts m w.1 refl, is_next (reserved (codes "UNTIL")) w.0 ts m w.1, word_ok (reserved (codes "UNTIL")) w.0 ts m w.1, condition_ok c m rest h) refl

perform_ok : (first : Name) (last : Option Name) (how : Repetition) (ts rest : List Token) → IsPlain (performs first last how) ts rest → statements.read_perform ts ≡ Ok (performs first last how, rest)
unfolding statements.read_perform
perform_ok first last how ts rest (m, w, (m2, h, (m3, t, k))) =
    rw (word_ok (reserved (codes "PERFORM")) w.0 ts m w.1, name_ok first m m2 h, maybe_ok (begins_form forms.through) statements.through IsThrough (length m2) (λ x u v _ e. through_ok x u v e) (begun opens_through) last m2 m3 (omega arith) t, repetition_ok how m3 rest k) refl

go_ok : (target : Name) (ts rest : List Token) → IsPlain (goes target) ts rest → statements.read_go ts ≡ Ok (goes target, rest)
unfolding statements.read_go
go_ok target ts rest (m, w, (m2, t, h)) = rw (word_ok (reserved (codes "GO")) w.0 ts m w.1, (perhaps_ok (reserved (codes "TO")) m m2 t).1, name_ok target m2 rest h) refl

exit_ok : (ts rest : List Token) → IsPlain exits ts rest → statements.read_exit ts ≡ Ok (exits, rest)
unfolding statements.read_exit
exit_ok ts rest w = rw (word_ok (reserved (codes "EXIT")) w.0 ts rest w.1) refl

stop_ok : (ts rest : List Token) → IsPlain stops ts rest → statements.read_stop ts ≡ Ok (stops, rest)
unfolding statements.read_stop
stop_ok ts rest (m, w, h) = rw (word_ok (reserved (codes "STOP")) w.0 ts m w.1, word_ok (reserved (codes "RUN")) h.0 m rest h.1) refl

-- SEND
esi_ok : (ts rest : List Token) → word (codes "ESI") ts rest → statements.mark ts ≡ Ok (indicators.Esi, rest)
unfolding statements.mark
esi_ok ts rest w = rw (is_next (reserved (codes "ESI")) w.0 ts rest w.1, word_ok (reserved (codes "ESI")) w.0 ts rest w.1) refl

emi_ok : (ts rest : List Token) → word (codes "EMI") ts rest → statements.mark ts ≡ Ok (indicators.Emi, rest)
unfolding statements.mark
emi_ok ts rest w = rw (not_next (reserved (codes "EMI")) (reserved (codes "ESI")) w.0 ts rest w.1 refl, is_next (reserved (codes "EMI")) w.0 ts rest w.1, word_ok (reserved (codes "EMI")) w.0 ts rest w.1) refl

egi_ok : (ts rest : List Token) → word (codes "EGI") ts rest → statements.mark ts ≡ Ok (indicators.Egi, rest)
unfolding statements.mark
egi_ok ts rest w = rw (not_next (reserved (codes "EGI")) (reserved (codes "ESI")) w.0 ts rest w.1 refl, not_next (reserved (codes "EGI")) (reserved (codes "EMI")) w.0 ts rest w.1 refl, word_ok (reserved (codes "EGI")) w.0 ts rest w.1) refl

-- a mark, behind WITH or not
marked_ok : (what : Indicator) (ts m rest : List Token) → maybe_word (codes "WITH") ts m → statements.mark m ≡ Ok (what, rest) → begins (is name) m ≡ false → statements.indicator ts ≡ Ok (what, rest)
unfolding statements.indicator statements.with_what
marked_ok what ts m rest (inl u) e n = let b : begins (is (reserved (codes "WITH"))) ts ≡ false = rw (← u.0) u.1 in rw b (let same : statements.mark ts ≡ statements.mark m = ap statements.mark (sym u.0) in same ∙ e)
marked_ok what ts m rest (inr w) e n = rw (is_next (reserved (codes "WITH")) w.0 ts m w.1, word_ok (reserved (codes "WITH")) w.0 ts m w.1, n) e

with_item : (i : Identifier) (ts rest : List Token) → IsIndicator (indicators.Item i) ts rest → statements.indicator ts ≡ Ok (indicators.Item i, rest)
unfolding statements.indicator statements.with_what
with_item i ts rest (m, w, h) = rw (is_next (reserved (codes "WITH")) w.0 ts m w.1, word_ok (reserved (codes "WITH")) w.0 ts m w.1, identified i m rest h, identifier_ok i m rest h) refl

indicator_ok : (what : Indicator) (ts rest : List Token) → IsIndicator what ts rest → statements.indicator ts ≡ Ok (what, rest)
indicator_ok (indicators.Item i) ts rest h = with_item i ts rest h
indicator_ok indicators.Esi ts rest (m, w, h) = marked_ok indicators.Esi ts m rest w (esi_ok m rest h) (not_next (reserved (codes "ESI")) name h.0 m rest h.1 refl)
indicator_ok indicators.Emi ts rest (m, w, h) = marked_ok indicators.Emi ts m rest w (emi_ok m rest h) (not_next (reserved (codes "EMI")) name h.0 m rest h.1 refl)
indicator_ok indicators.Egi ts rest (m, w, h) = marked_ok indicators.Egi ts m rest w (egi_ok m rest h) (not_next (reserved (codes "EGI")) name h.0 m rest h.1 refl)

counted_ok : (count : Addend) (ts rest : List Token) → line_or_lines ts rest → statements.perhaps_lines (lines.Count count) ts ≡ Ok (lines.Count count, rest)
unfolding statements.perhaps_lines
counted_ok count ts rest (inl u) =
    let none = starts_none (alternatives_of forms.line_word) rest u.1 in
    let a : begins (is (reserved (codes "LINE"))) ts ≡ false = rw (← u.0) none.0 in
    let b : begins (is (reserved (codes "LINES"))) ts ≡ false = rw (← u.0) none.1.0 in
    rw (a, b) (ap (λ r. Ok (lines.Count count, r)) (sym u.0))
counted_ok count ts rest (inr (inl w)) = rw (is_next (reserved (codes "LINE")) w.0 ts rest w.1, word_ok (reserved (codes "LINE")) w.0 ts rest w.1) refl
counted_ok count ts rest (inr (inr w)) = rw (not_next (reserved (codes "LINES")) (reserved (codes "LINE")) w.0 ts rest w.1 refl, is_next (reserved (codes "LINES")) w.0 ts rest w.1, word_ok (reserved (codes "LINES")) w.0 ts rest w.1) refl

lines_ok : (l : Lines) (ts rest : List Token) → IsLines l ts rest → statements.lines_or_page ts ≡ Ok (l, rest)
unfolding statements.lines_or_page
lines_ok (lines.Count (addends.Item i)) ts rest (m, h, k) = rw (identified i ts m h, identifier_ok i ts m h) (counted_ok (addends.Item i) m rest k)
lines_ok (lines.Count (addends.Number x)) ts rest (m, h, k) =
    rw (begins_other (of_kind tokens.Number) name ts (numbered x ts m h) refl, numbered x ts m h, number_ok x ts m h) (counted_ok (addends.Number x) m rest k)
lines_ok lines.Page ts rest w = rw (not_next (reserved (codes "PAGE")) name w.0 ts rest w.1 refl, not_next (reserved (codes "PAGE")) (of_kind tokens.Number) w.0 ts rest w.1 refl, word_ok (reserved (codes "PAGE")) w.0 ts rest w.1) refl

advanced_ok : (l : Lines) (ts rest : List Token) → (maybe_word (codes "ADVANCING") ⊙ IsLines l) ts rest → statements.advanced ts ≡ Ok (l, rest)
unfolding statements.advanced
advanced_ok l ts rest (m, p, h) = rw ((perhaps_ok (reserved (codes "ADVANCING")) ts m p).1) (lines_ok l m rest h)

way_ok : (after : Bool) (l : Lines) (ts rest : List Token) → IsAdvancing (record { after = after; lines = l }) ts rest → statements.advancing ts ≡ Ok (record { after = after; lines = l }, rest)
unfolding statements.advancing
way_ok true l ts rest (m, w, h) = rw (not_next (reserved (codes "AFTER")) (reserved (codes "BEFORE")) w.0 ts m w.1 refl, word_ok (reserved (codes "AFTER")) w.0 ts m w.1, advanced_ok l m rest h) refl
way_ok false l ts rest (m, w, h) = rw (is_next (reserved (codes "BEFORE")) w.0 ts m w.1, word_ok (reserved (codes "BEFORE")) w.0 ts m w.1, advanced_ok l m rest h) refl

advancing_ok : (x : Advancing) (ts rest : List Token) → IsAdvancing x ts rest → statements.advancing ts ≡ Ok (x, rest)
advancing_ok x ts rest h = way_ok x.after x.lines ts rest h

ending_ok : (x : Ending) (ts rest : List Token) → IsEnding x ts rest → statements.ending ts ≡ Ok (x, rest)
unfolding statements.ending
ending_ok x ts rest (m, h, k) =
    rw (indicator_ok x.indicator ts m h, maybe_ok (begins_form forms.advancing) statements.advancing IsAdvancing (length m) (λ y u v _ e. advancing_ok y u v e) (begun opens_advancing) x.advancing m rest (omega arith) k) refl

-- an end begins with no FROM
mark_no_from : (ts m : List Token) → maybe_word (codes "WITH") ts m → begins (is (reserved (codes "FROM"))) m ≡ false → begins (is (reserved (codes "FROM"))) ts ≡ false
mark_no_from ts m (inl u) h = rw (← u.0) h
mark_no_from ts m (inr w) h = not_next (reserved (codes "WITH")) (reserved (codes "FROM")) w.0 ts m w.1 refl

no_from : (what : Indicator) (ts rest : List Token) → IsIndicator what ts rest → begins (is (reserved (codes "FROM"))) ts ≡ false
no_from (indicators.Item i) ts rest (m, w, h) = not_next (reserved (codes "WITH")) (reserved (codes "FROM")) w.0 ts m w.1 refl
no_from indicators.Esi ts rest (m, w, h) = mark_no_from ts m w (not_next (reserved (codes "ESI")) (reserved (codes "FROM")) h.0 m rest h.1 refl)
no_from indicators.Emi ts rest (m, w, h) = mark_no_from ts m w (not_next (reserved (codes "EMI")) (reserved (codes "FROM")) h.0 m rest h.1 refl)
no_from indicators.Egi ts rest (m, w, h) = mark_no_from ts m w (not_next (reserved (codes "EGI")) (reserved (codes "FROM")) h.0 m rest h.1 refl)

sent_ok : (from : Option Identifier) (end : Option Ending) (ts rest : List Token) → IsSent from end ts rest → statements.sent ts ≡ Ok ((from, end), rest)
unfolding statements.sent
sent_ok (Some i) end ts rest (m, w, (m2, h, k)) =
    rw (is_next (reserved (codes "FROM")) w.0 ts m w.1, word_ok (reserved (codes "FROM")) w.0 ts m w.1, identifier_ok i m m2 h, maybe_ok (begins_form forms.ending) statements.ending IsEnding (length m2) (λ y u v _ e. ending_ok y u v e) (begun opens_ending) end m2 rest (omega arith) k) refl
sent_ok None (Some end) ts rest h = rw (no_from end.indicator ts h.0 h.1, ending_ok end ts rest h) refl
sent_ok None None ts rest h = absurd h

send_ok : (cd : Name) (from : Option Identifier) (end : Option Ending) (ts rest : List Token) → IsPlain (sends cd from end) ts rest → statements.read_send ts ≡ Ok (sends cd from end, rest)
unfolding statements.read_send
send_ok cd from end ts rest (m, w, (m2, h, k)) = rw (word_ok (reserved (codes "SEND")) w.0 ts m w.1, name_ok cd m m2 h, sent_ok from end m2 rest k) refl

-- ENABLE, DISABLE and ACCEPT
switched_ok : (x : Option Bool) (ts rest : List Token) → IsSwitched x ts rest → statements.switched ts ≡ Ok (x, rest)
unfolding statements.switched
switched_ok (Some terminal) ts rest (m, w, k) = rw (is_next (reserved (codes "INPUT")) w.0 ts m w.1, word_ok (reserved (codes "INPUT")) w.0 ts m w.1, written_ok terminal (reserved (codes "TERMINAL")) m rest k) refl
switched_ok None ts rest w = rw (not_next (reserved (codes "OUTPUT")) (reserved (codes "INPUT")) w.0 ts rest w.1 refl, word_ok (reserved (codes "OUTPUT")) w.0 ts rest w.1) refl

switch_ok : (text : List ℕ) (on : Bool) (which : Option Bool) (cd : Name) (value : Key) (ts m m2 rest : List Token) → word text ts m → IsSwitched which m m2 → is_keyed cd value m2 rest
    → statements.read_switch text on ts ≡ Ok (statements.switches on which cd value, rest)
unfolding statements.read_switch
switch_ok text on which cd value ts m m2 rest w s (m3, h, (m4, p, (m5, k, v))) =
    rw (word_ok (reserved text) w.0 ts m w.1, switched_ok which m m2 s, name_ok cd m2 m3 h, (perhaps_ok (reserved (codes "WITH")) m3 m4 p).1, word_ok (reserved (codes "KEY")) k.0 m4 m5 k.1, key_ok value m5 rest v) refl

accept_ok : (cd : Name) (ts rest : List Token) → IsPlain (accepts cd) ts rest → statements.read_accept ts ≡ Ok (accepts cd, rest)
unfolding statements.read_accept
accept_ok cd ts rest (m, w, (m2, h, (m3, p, k))) = rw (word_ok (reserved (codes "ACCEPT")) w.0 ts m w.1, name_ok cd m m2 h, (perhaps_ok (reserved (codes "MESSAGE")) m2 m3 p).1, word_ok (reserved (codes "COUNT")) k.0 m3 rest k.1) refl

-- each by its first word
by_move : (ts : List Token) → begins (is (reserved (codes "MOVE"))) ts ≡ true → statements.read_plain ts ≡ statements.read_move ts
unfolding statements.read_plain
by_move ts h = rw (h) refl

by_add : (ts : List Token) → begins (is (reserved (codes "ADD"))) ts ≡ true → statements.read_plain ts ≡ statements.read_add ts
unfolding statements.read_plain
by_add ts h = rw (begins_other (reserved (codes "ADD")) (reserved (codes "MOVE")) ts h refl, h) refl

by_subtract : (ts : List Token) → begins (is (reserved (codes "SUBTRACT"))) ts ≡ true → statements.read_plain ts ≡ statements.read_subtract ts
unfolding statements.read_plain
by_subtract ts h = rw (begins_other (reserved (codes "SUBTRACT")) (reserved (codes "MOVE")) ts h refl, begins_other (reserved (codes "SUBTRACT")) (reserved (codes "ADD")) ts h refl, h) refl

by_perform : (ts : List Token) → begins (is (reserved (codes "PERFORM"))) ts ≡ true → statements.read_plain ts ≡ statements.read_perform ts
unfolding statements.read_plain
by_perform ts h = rw (begins_other (reserved (codes "PERFORM")) (reserved (codes "MOVE")) ts h refl, begins_other (reserved (codes "PERFORM")) (reserved (codes "ADD")) ts h refl, begins_other (reserved (codes "PERFORM")) (reserved (codes "SUBTRACT")) ts h refl, h) refl

by_go : (ts : List Token) → begins (is (reserved (codes "GO"))) ts ≡ true → statements.read_plain ts ≡ statements.read_go ts
unfolding statements.read_plain
by_go ts h = rw (begins_other (reserved (codes "GO")) (reserved (codes "MOVE")) ts h refl, begins_other (reserved (codes "GO")) (reserved (codes "ADD")) ts h refl, begins_other (reserved (codes "GO")) (reserved (codes "SUBTRACT")) ts h refl, begins_other (reserved (codes "GO")) (reserved (codes "PERFORM")) ts h refl, h) refl

by_exit : (ts : List Token) → begins (is (reserved (codes "EXIT"))) ts ≡ true → statements.read_plain ts ≡ statements.read_exit ts
unfolding statements.read_plain
by_exit ts h = rw (begins_other (reserved (codes "EXIT")) (reserved (codes "MOVE")) ts h refl, begins_other (reserved (codes "EXIT")) (reserved (codes "ADD")) ts h refl, begins_other (reserved (codes "EXIT")) (reserved (codes "SUBTRACT")) ts h refl, begins_other (reserved (codes "EXIT")) (reserved (codes "PERFORM")) ts h refl, begins_other (reserved (codes "EXIT")) (reserved (codes "GO")) ts h refl, h) refl

by_stop : (ts : List Token) → begins (is (reserved (codes "STOP"))) ts ≡ true → statements.read_plain ts ≡ statements.read_stop ts
unfolding statements.read_plain
by_stop ts h = rw (begins_other (reserved (codes "STOP")) (reserved (codes "MOVE")) ts h refl, begins_other (reserved (codes "STOP")) (reserved (codes "ADD")) ts h refl, begins_other (reserved (codes "STOP")) (reserved (codes "SUBTRACT")) ts h refl, begins_other (reserved (codes "STOP")) (reserved (codes "PERFORM")) ts h refl, begins_other (reserved (codes "STOP")) (reserved (codes "GO")) ts h refl, begins_other (reserved (codes "STOP")) (reserved (codes "EXIT")) ts h refl, h) refl

by_send : (ts : List Token) → begins (is (reserved (codes "SEND"))) ts ≡ true → statements.read_plain ts ≡ statements.read_send ts
unfolding statements.read_plain
by_send ts h = rw (begins_other (reserved (codes "SEND")) (reserved (codes "MOVE")) ts h refl, begins_other (reserved (codes "SEND")) (reserved (codes "ADD")) ts h refl, begins_other (reserved (codes "SEND")) (reserved (codes "SUBTRACT")) ts h refl, begins_other (reserved (codes "SEND")) (reserved (codes "PERFORM")) ts h refl, begins_other (reserved (codes "SEND")) (reserved (codes "GO")) ts h refl, begins_other (reserved (codes "SEND")) (reserved (codes "EXIT")) ts h refl, begins_other (reserved (codes "SEND")) (reserved (codes "STOP")) ts h refl, h) refl

by_enable : (ts : List Token) → begins (is (reserved (codes "ENABLE"))) ts ≡ true → statements.read_plain ts ≡ statements.read_switch (codes "ENABLE") true ts
unfolding statements.read_plain
by_enable ts h = rw (begins_other (reserved (codes "ENABLE")) (reserved (codes "MOVE")) ts h refl, begins_other (reserved (codes "ENABLE")) (reserved (codes "ADD")) ts h refl, begins_other (reserved (codes "ENABLE")) (reserved (codes "SUBTRACT")) ts h refl, begins_other (reserved (codes "ENABLE")) (reserved (codes "PERFORM")) ts h refl, begins_other (reserved (codes "ENABLE")) (reserved (codes "GO")) ts h refl, begins_other (reserved (codes "ENABLE")) (reserved (codes "EXIT")) ts h refl, begins_other (reserved (codes "ENABLE")) (reserved (codes "STOP")) ts h refl, begins_other (reserved (codes "ENABLE")) (reserved (codes "SEND")) ts h refl, h) refl

by_disable : (ts : List Token) → begins (is (reserved (codes "DISABLE"))) ts ≡ true → statements.read_plain ts ≡ statements.read_switch (codes "DISABLE") false ts
unfolding statements.read_plain
by_disable ts h = rw (begins_other (reserved (codes "DISABLE")) (reserved (codes "MOVE")) ts h refl, begins_other (reserved (codes "DISABLE")) (reserved (codes "ADD")) ts h refl, begins_other (reserved (codes "DISABLE")) (reserved (codes "SUBTRACT")) ts h refl, begins_other (reserved (codes "DISABLE")) (reserved (codes "PERFORM")) ts h refl, begins_other (reserved (codes "DISABLE")) (reserved (codes "GO")) ts h refl, begins_other (reserved (codes "DISABLE")) (reserved (codes "EXIT")) ts h refl, begins_other (reserved (codes "DISABLE")) (reserved (codes "STOP")) ts h refl, begins_other (reserved (codes "DISABLE")) (reserved (codes "SEND")) ts h refl, begins_other (reserved (codes "DISABLE")) (reserved (codes "ENABLE")) ts h refl, h) refl

by_accept : (ts : List Token) → begins (is (reserved (codes "ACCEPT"))) ts ≡ true → statements.read_plain ts ≡ statements.read_accept ts
unfolding statements.read_plain
by_accept ts h = rw (begins_other (reserved (codes "ACCEPT")) (reserved (codes "MOVE")) ts h refl, begins_other (reserved (codes "ACCEPT")) (reserved (codes "ADD")) ts h refl, begins_other (reserved (codes "ACCEPT")) (reserved (codes "SUBTRACT")) ts h refl, begins_other (reserved (codes "ACCEPT")) (reserved (codes "PERFORM")) ts h refl, begins_other (reserved (codes "ACCEPT")) (reserved (codes "GO")) ts h refl, begins_other (reserved (codes "ACCEPT")) (reserved (codes "EXIT")) ts h refl, begins_other (reserved (codes "ACCEPT")) (reserved (codes "STOP")) ts h refl, begins_other (reserved (codes "ACCEPT")) (reserved (codes "SEND")) ts h refl, begins_other (reserved (codes "ACCEPT")) (reserved (codes "ENABLE")) ts h refl, begins_other (reserved (codes "ACCEPT")) (reserved (codes "DISABLE")) ts h refl) refl

verb_next : (text : List ℕ) (ts rest : List Token) → word text ts rest → begins (is (reserved text)) ts ≡ true
verb_next text ts rest w = is_next (reserved text) w.0 ts rest w.1

pub plain_ok : (s : Plain) (ts rest : List Token) → IsPlain s ts rest → statements.read_plain ts ≡ Ok (s, rest)
plain_ok (moves source targets) ts rest h = by_move ts (verb_next (codes "MOVE") ts h.0 h.1) ∙ move_ok source targets ts rest h
plain_ok (adds what target) ts rest h = by_add ts (verb_next (codes "ADD") ts h.0 h.1) ∙ add_ok what target ts rest h
plain_ok (subtracts what target) ts rest h = by_subtract ts (verb_next (codes "SUBTRACT") ts h.0 h.1) ∙ subtract_ok what target ts rest h
plain_ok (performs first last how) ts rest h = by_perform ts (verb_next (codes "PERFORM") ts h.0 h.1) ∙ perform_ok first last how ts rest h
plain_ok (goes target) ts rest h = by_go ts (verb_next (codes "GO") ts h.0 h.1) ∙ go_ok target ts rest h
plain_ok exits ts rest h = by_exit ts (verb_next (codes "EXIT") ts rest h) ∙ exit_ok ts rest h
plain_ok stops ts rest h = by_stop ts (verb_next (codes "STOP") ts h.0 h.1) ∙ stop_ok ts rest h
plain_ok (sends cd from end) ts rest h = by_send ts (verb_next (codes "SEND") ts h.0 h.1) ∙ send_ok cd from end ts rest h
plain_ok (switches_input true terminal cd value) ts rest (m, w, (m2, i, (m3, t, k))) = by_enable ts (verb_next (codes "ENABLE") ts m w) ∙ switch_ok (codes "ENABLE") true (Some terminal) cd value ts m m3 rest w (m2, i, t) k
plain_ok (switches_input false terminal cd value) ts rest (m, w, (m2, i, (m3, t, k))) = by_disable ts (verb_next (codes "DISABLE") ts m w) ∙ switch_ok (codes "DISABLE") false (Some terminal) cd value ts m m3 rest w (m2, i, t) k
plain_ok (switches_output true cd value) ts rest (m, w, (m2, o, k)) = by_enable ts (verb_next (codes "ENABLE") ts m w) ∙ switch_ok (codes "ENABLE") true None cd value ts m m2 rest w o k
plain_ok (switches_output false cd value) ts rest (m, w, (m2, o, k)) = by_disable ts (verb_next (codes "DISABLE") ts m w) ∙ switch_ok (codes "DISABLE") false None cd value ts m m2 rest w o k
plain_ok (accepts cd) ts rest h = by_accept ts (verb_next (codes "ACCEPT") ts h.0 h.1) ∙ accept_ok cd ts rest h

neither : (text : List ℕ) (ts rest : List Token) → word text ts rest → differ (reserved text) (reserved (codes "IF")) ≡ true → differ (reserved text) (reserved (codes "RECEIVE")) ≡ true → (begins (is (reserved (codes "IF"))) ts ≡ false) × (begins (is (reserved (codes "RECEIVE"))) ts ≡ false)
neither text ts rest w a b = (not_next (reserved text) (reserved (codes "IF")) w.0 ts rest w.1 a, not_next (reserved text) (reserved (codes "RECEIVE")) w.0 ts rest w.1 b)

-- it begins with neither IF nor RECEIVE
pub no_if : (s : Plain) (ts rest : List Token) → IsPlain s ts rest → (begins (is (reserved (codes "IF"))) ts ≡ false) × (begins (is (reserved (codes "RECEIVE"))) ts ≡ false)
no_if (moves source targets) ts rest h = neither (codes "MOVE") ts h.0 h.1 refl refl
no_if (adds what target) ts rest h = neither (codes "ADD") ts h.0 h.1 refl refl
no_if (subtracts what target) ts rest h = neither (codes "SUBTRACT") ts h.0 h.1 refl refl
no_if (performs first last how) ts rest h = neither (codes "PERFORM") ts h.0 h.1 refl refl
no_if (goes target) ts rest h = neither (codes "GO") ts h.0 h.1 refl refl
no_if exits ts rest h = neither (codes "EXIT") ts rest h refl refl
no_if stops ts rest h = neither (codes "STOP") ts h.0 h.1 refl refl
no_if (sends cd from end) ts rest h = neither (codes "SEND") ts h.0 h.1 refl refl
no_if (switches_input true terminal cd value) ts rest h = neither (codes "ENABLE") ts h.0 h.1 refl refl
no_if (switches_input false terminal cd value) ts rest h = neither (codes "DISABLE") ts h.0 h.1 refl refl
no_if (switches_output true cd value) ts rest h = neither (codes "ENABLE") ts h.0 h.1 refl refl
no_if (switches_output false cd value) ts rest h = neither (codes "DISABLE") ts h.0 h.1 refl refl
no_if (accepts cd) ts rest h = neither (codes "ACCEPT") ts h.0 h.1 refl refl
