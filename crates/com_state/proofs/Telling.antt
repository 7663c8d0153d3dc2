-- The mode and the count of a party are told by its own entries.
use Rattle.std.proofs.Common.{◌≡◌, ◌≢◌, ℕ, ◌<◌, zero, suc, Bool, true, false, cond, arith, List, [], ◌∷◌, ◌++◌, Some, length, refl, sym, ap, subst, ◌∙◌, inl, inr, append_assoc}
use Rattle.std.specs.Prelude.{slice_get, option_and_then, replicate}
use Rattle.std.specs.List.{filter, find, position}
use Rattle.std.specs.Str.{bytes_eq}
use Rattle.std.proofs.lemmas.Bool.{cases_Bool, cases_eq}
use Rattle.std.proofs.lemmas.List.{append-nil}
use Rattle.std.proofs.lemmas.List.Elements.{filter-append}
use Rattle.std.proofs.lemmas.List.Sums.{fold-append}
use Rattle.std.proofs.lemmas.Option.{same_Some}
use Rattle.std.proofs.lemmas.Slice.Eq.{bytes_eq-Decides}
use Rattle.com_net.specs.declared.net.Net.{Net}
use Rattle.com_net.specs.declared.net.Terminal.{Terminal}
use Rattle.com_net.specs.declared.net.UnitRow.{UnitRow}
use Rattle.com_net.specs.Numbers.{unit_number, terminal_number}
use Rattle.com_events.specs.declared.call.Party.{Party}
use Rattle.com_events.specs.declared.call.Party.TheVariants as party
use Rattle.com_events.specs.declared.call.Call.{Call}
use Rattle.com_events.specs.declared.reply.Reply.{Reply}
use Rattle.com_events.specs.declared.entry.Entry.{Entry}
use Rattle.com_recv.proofs.Members.{find_among}
use Rattle.com_recv.proofs.Places.{found_at_place, place_within}
use Rattle.com_recv.proofs.Handing.{there_is}
use Rattle.com_state.specs.declared.parties.UnitState.{UnitState}
use Rattle.com_state.specs.declared.parties.TerminalState.{TerminalState}
use Rattle.com_state.specs.State.{State, opening, opening_unit, opening_terminal}
use Rattle.com_state.specs.Steps.{step}
use Rattle.com_state.specs.Histories.{LeadsTo}
use Rattle.com_state.specs.Reached.{IsToldBy}
use Rattle.com_state.specs.Parties.{is_party, entries_of, after_unit_call, after_terminal_call, unit_by, terminal_by}
use Rattle.com_state.proofs.StepCases.{step_of_unit, step_of_terminal}
use Rattle.com_state.proofs.Owned.{at_place, at_here, at_elsewhere, unit_done, terminal_done}

-- what stands at the place of the first that passes, passes
at_position : {X : Type 0} (p : X → Bool) (xs : List X) (at : ℕ) → position p xs ≡ Some at → (x : X) × (p x ≡ true) × (slice_get xs at ≡ Some x)
at_position {X} p xs at e =
    let one = there_is xs at (place_within p xs at e) in
    let found : find p xs ≡ Some one.0 = sym (found_at_place p xs) ∙ (ap (option_and_then (slice_get xs)) e ∙ one.1) in
    (one.0, (find_among p xs one.0 found).1, one.1)

equal_bytes : (a b : List ℕ) → bytes_eq a b ≡ true → a ≡ b
equal_bytes a b e = grind (arith, bytes_eq-Decides a b, e)

bytes_equal : (a b : List ℕ) → a ≡ b → bytes_eq a b ≡ true
bytes_equal a b e = grind (arith, bytes_eq-Decides a b, e)

-- two names of one place are one name
one_name : {X : Type 0} (name_of : X → List ℕ) (xs : List X) (a b : List ℕ) (at : ℕ) → position (λ x. bytes_eq (name_of x) a) xs ≡ Some at → position (λ x. bytes_eq (name_of x) b) xs ≡ Some at → bytes_eq a b ≡ true
one_name {X} name_of xs a b at first second =
    let one = at_position (λ x. bytes_eq (name_of x) a) xs at first in
    let other = at_position (λ x. bytes_eq (name_of x) b) xs at second in
    let same : one.0 ≡ other.0 = same_Some one.0 other.0 (sym one.2 ∙ other.2) in
    bytes_equal a b (sym (equal_bytes (name_of one.0) a one.1) ∙ (ap name_of same ∙ equal_bytes (name_of other.0) b other.1))

-- names of two places are two names
two_names : {X : Type 0} (name_of : X → List ℕ) (xs : List X) (a b : List ℕ) (at other : ℕ) → position (λ x. bytes_eq (name_of x) a) xs ≡ Some at → position (λ x. bytes_eq (name_of x) b) xs ≡ Some other → at ≢ other
    → bytes_eq a b ≡ false
two_names {X} name_of xs a b at other first second ne = elim (cases_Bool (bytes_eq a b)) [
  | inl same ↦
      let is : a ≡ b = equal_bytes a b same in
      absurd (ne (same_Some at other (sym first ∙ (ap (λ name. position (λ x. bytes_eq (name_of x) name) xs) is ∙ second))))
  | inr apart ↦ apart
]

-- one entry more, of the party and of another
own_more : (who : Party) (history : List Entry) (entry : Entry) → is_party who entry.party ≡ true → entries_of who (history ++ entry ∷ []) ≡ entries_of who history ++ entry ∷ []
own_more who history entry own =
    let test = λ (e : Entry). is_party who e.party in
    filter-append test history (entry ∷ []) ∙ ap (λ b. filter test history ++ cond b (entry ∷ []) []) own

others_more : (who : Party) (history : List Entry) (entry : Entry) → is_party who entry.party ≡ false → entries_of who (history ++ entry ∷ []) ≡ entries_of who history
others_more who history entry other =
    let test = λ (e : Entry). is_party who e.party in
    filter-append test history (entry ∷ []) ∙ (ap (λ b. filter test history ++ cond b (entry ∷ []) []) other ∙ append-nil (filter test history))

unit_more : (entries : List Entry) (entry : Entry) → unit_by (entries ++ entry ∷ []) ≡ after_unit_call (unit_by entries) entry.call entry.reply
unit_more entries entry = fold-append (λ (u : UnitState) (e : Entry). after_unit_call u e.call e.reply) opening_unit entries (entry ∷ [])

terminal_more : (entries : List Entry) (entry : Entry) → terminal_by (entries ++ entry ∷ []) ≡ after_terminal_call (terminal_by entries) entry.call
terminal_more entries entry = fold-append (λ (t : TerminalState) (e : Entry). after_terminal_call t e.call) opening_terminal entries (entry ∷ [])

all_alike : {X : Type 0} (n at : ℕ) (x : X) → at < n → slice_get (replicate n x) at ≡ Some x
all_alike {X} zero at x within = absurd (omega (arith, within))
all_alike {X} (suc n) zero x within = refl
all_alike {X} (suc n) (suc at) x within = all_alike n at x (omega (arith, within))

-- at the opening
tells_opening : (net : Net) → IsToldBy net [] (opening net)
tells_opening net = record {
  net = refl;
  units = λ name unit found. all_alike (length net.units) unit opening_unit (place_within (λ (u : UnitRow). bytes_eq u.name name) net.units unit found);
  terminals = λ name terminal found. all_alike (length net.terminals) terminal opening_terminal (place_within (λ (t : Terminal). bytes_eq t.name name) net.terminals terminal found);
}

-- with one step more
tells_step : (net : Net) (done : List Entry) (S next : State) (who : Party) (call : Call) (reply : Reply) → step S who call ≡ Some (reply, next) → IsToldBy net done S
    → IsToldBy net (done ++ record { party = who; call = call; reply = reply } ∷ []) next
tells_step net done S next (party.Unit other) call reply stepped tells =
    let entry : Entry = record { party = party.Unit other; call = call; reply = reply } in
    let its = step_of_unit S other call reply next stepped in
    let made = unit_done S its.0 call reply next its.2 in
    let number : unit_number net other ≡ Some its.0 = ap (λ n. unit_number n other) (sym tells.net) ∙ its.1 in
    let after = λ (u : UnitState). after_unit_call u call reply in
    record {
      net = made.net ∙ tells.net;
      units = λ name unit found. elim (cases_eq unit its.0) [
        | inl same ↦
            let own : is_party (party.Unit name) (party.Unit other) ≡ true = one_name (λ (u : UnitRow). u.name) net.units name other unit found (number ∙ ap (λ n. Some n) (sym same)) in
            let before = tells.units name unit found in
            ap (λ units. slice_get units unit) (made.units ∙ ap (λ n. at_place S.units n after) (sym same))
            ∙ (at_here S.units unit after (unit_by (entries_of (party.Unit name) done)) before
            ∙ ap (λ u. Some u) (sym (ap unit_by (own_more (party.Unit name) done entry own) ∙ unit_more (entries_of (party.Unit name) done) entry)))
        | inr ne ↦
            let apart : is_party (party.Unit name) (party.Unit other) ≡ false = two_names (λ (u : UnitRow). u.name) net.units name other unit its.0 found number ne in
            ap (λ units. slice_get units unit) made.units
            ∙ (at_elsewhere S.units its.0 unit after ne
            ∙ (tells.units name unit found ∙ ap (λ entries. Some (unit_by entries)) (sym (others_more (party.Unit name) done entry apart))))
      ];
      terminals = λ name terminal found.
          ap (λ terminals. slice_get terminals terminal) made.terminals
          ∙ (tells.terminals name terminal found ∙ ap (λ entries. Some (terminal_by entries)) (sym (others_more (party.Terminal name) done entry refl)));
    }
tells_step net done S next (party.Terminal other) call reply stepped tells =
    let entry : Entry = record { party = party.Terminal other; call = call; reply = reply } in
    let its = step_of_terminal S other call reply next stepped in
    let made = terminal_done S its.0 other call reply next its.2 in
    let number : terminal_number net other ≡ Some its.0 = ap (λ n. terminal_number n other) (sym tells.net) ∙ its.1 in
    let after = λ (t : TerminalState). after_terminal_call t call in
    record {
      net = made.net ∙ tells.net;
      units = λ name unit found.
          ap (λ units. slice_get units unit) made.units
          ∙ (tells.units name unit found ∙ ap (λ entries. Some (unit_by entries)) (sym (others_more (party.Unit name) done entry refl)));
      terminals = λ name terminal found. elim (cases_eq terminal its.0) [
        | inl same ↦
            let own : is_party (party.Terminal name) (party.Terminal other) ≡ true = one_name (λ (t : Terminal). t.name) net.terminals name other terminal found (number ∙ ap (λ n. Some n) (sym same)) in
            let before = tells.terminals name terminal found in
            ap (λ terminals. slice_get terminals terminal) (made.terminals ∙ ap (λ n. at_place S.terminals n after) (sym same))
            ∙ (at_here S.terminals terminal after (terminal_by (entries_of (party.Terminal name) done)) before
            ∙ ap (λ t. Some t) (sym (ap terminal_by (own_more (party.Terminal name) done entry own) ∙ terminal_more (entries_of (party.Terminal name) done) entry)))
        | inr ne ↦
            let apart : is_party (party.Terminal name) (party.Terminal other) ≡ false = two_names (λ (t : Terminal). t.name) net.terminals name other terminal its.0 found number ne in
            ap (λ terminals. slice_get terminals terminal) made.terminals
            ∙ (at_elsewhere S.terminals its.0 terminal after ne
            ∙ (tells.terminals name terminal found ∙ ap (λ entries. Some (terminal_by entries)) (sym (others_more (party.Terminal name) done entry apart))))
      ];
    }

-- along a history
tells_after : (net : Net) (done : List Entry) (S : State) (history : List Entry) (last : State) → LeadsTo S history last → IsToldBy net done S → IsToldBy net (done ++ history) last
tells_after net done S [] last e tells = subst (λ all. IsToldBy net all last) (sym (append-nil done)) (subst (IsToldBy net done) (sym e) tells)
tells_after net done S (entry ∷ entries) last e tells =
    let behind = tells_after net (done ++ entry ∷ []) e.0 entries last e.2 (tells_step net done S e.0 entry.party entry.call entry.reply e.1 tells) in
    subst (λ all. IsToldBy net all last) (append_assoc done (entry ∷ []) entries) behind

-- from the opening on
pub told_by_entries : (net : Net) (history : List Entry) (last : State) → LeadsTo (opening net) history last → IsToldBy net history last
told_by_entries net history last leads = tells_after net [] (opening net) history last leads (tells_opening net)
