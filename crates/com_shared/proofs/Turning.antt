-- What a pass at its turn knows, and how an entry changes it.
use Rattle.std.proofs.Common.{◌≡◌, ◌≢◌, ℕ, zero, suc, ◌+◌, ◌-◌, ◌<◌, ◌≤◌, ◌==◌, ◌^◌, Bool, true, false, nat_lt, List, [], ◌∷◌, ◌++◌, length, map, drop, Option, Some, None, refl, ap, sym, ◌∙◌, subst, arith, inl, inr, if◌then◌else◌, append-nil, append_assoc, length-append}
use Rattle.std.specs.Prelude.{IsTrue, is_some, option_map, slice_get, unwrap_or}
use Rattle.std.specs.List.{filter, zip, AllByRecursion}
use Rattle.std.proofs.lemmas.Bool.{cases_Bool}
use Rattle.std.proofs.lemmas.Bool.Decides.{nat_tests}
use Rattle.std.proofs.lemmas.Option.{same_Some}
use Rattle.com_turn.specs.Passes.{PassState, mine}
use Rattle.com_turn.specs.Histories.{IsPrefixOf}
use Rattle.com_turn.specs.declared.view.Toggle.{Toggle}
use Rattle.com_net.specs.declared.net.Net.{Net}
use Rattle.com_net.specs.Network.{IsNet}
use Rattle.com_events.specs.declared.call.Party.{Party}
use Rattle.com_events.specs.declared.call.Party.TheVariants as party
use Rattle.com_events.specs.declared.call.Call.{Call}
use Rattle.com_events.specs.declared.reply.Reply.{Reply}
use Rattle.com_events.specs.declared.entry.Entry.{Entry}
use Rattle.com_events.specs.Calls.{HasText, IsCallOf, IsWellFormed, IsReplyTo}
use Rattle.com_state.specs.State.{State, opening}
use Rattle.com_state.specs.Steps.{step}
use Rattle.com_state.specs.Histories.{LeadsTo, Legal}
use Rattle.com_state.specs.Parties.{entries_of}
use Rattle.com_state.proofs.Fronts.{leads_more}
use Rattle.com_state.proofs.Replying.{unit_makes, terminal_makes}
use Rattle.com_shared.specs.Parties.{parties, party_at, unit_name, terminal_name, Item, entries, IsNumbered, AreNumbered}
use Rattle.com_shared.specs.Passes.{Log, IsKept, Place, PassOf, seen, own, Knows, IsPass, IsLater, entry_at}
use Rattle.com_shared.specs.inner.Turns.{IsAtTurn}
use Rattle.com_shared.proofs.Numbered.{at_unit, at_terminal, unit_named, terminal_named, entries_by_number}

-- lists
pub zip_more : {A B : Type 0} (xs : List A) (ys : List B) (x : A) (y : B) → length xs ≡ length ys → zip (xs ++ x ∷ []) (ys ++ y ∷ []) ≡ zip xs ys ++ (x, y) ∷ []
zip_more [] [] x y h = refl
zip_more [] (b ∷ ys) x y h = absurd (omega (arith, h))
zip_more (a ∷ xs) [] x y h = absurd (omega (arith, h))
zip_more (a ∷ xs) (b ∷ ys) x y h = ap (λ zs. (a, b) ∷ zs) (zip_more xs ys x y (omega (arith, h)))

pub zip_length : {A B : Type 0} (xs : List A) (ys : List B) → length xs ≡ length ys → length (zip xs ys) ≡ length ys
zip_length [] [] h = refl
zip_length [] (b ∷ ys) h = absurd (omega (arith, h))
zip_length (a ∷ xs) [] h = absurd (omega (arith, h))
zip_length (a ∷ xs) (b ∷ ys) h = ap (λ n. suc n) (zip_length xs ys (omega (arith, h)))

pub map_more : {A B : Type 0} (f : A → B) (xs : List A) (x : A) → map f (xs ++ x ∷ []) ≡ map f xs ++ f x ∷ []
map_more f [] x = refl
map_more f (y ∷ xs) x = ap (λ ys. f y ∷ ys) (map_more f xs x)

all_more : {A : Type 0} (P : A → Type 0) (xs : List A) (x : A) → AllByRecursion P xs → P x → AllByRecursion P (xs ++ x ∷ [])
all_more P [] x all it = (it, tt)
all_more P (y ∷ xs) x all it = (all.0, all_more P xs x all.1 it)

-- the party with a number makes the calls of its sort
call_of_party : (net : Net) (k : ℕ) (S next : State) (call : Call) (reply : Reply) → IsNet net → k < parties net → step S (party_at net k) call ≡ Some (reply, next) → IsCallOf (party_at net k) call
call_of_party net k S next call reply is few stepped = elim (cases_Bool (nat_lt k (length net.units))) [
  | inl a ↦
      let low : k < length net.units = grind (arith, a, nat_tests) in
      let who = at_unit net k low in
      subst (λ (p : Party). IsCallOf p call) (sym who) (unit_named net k is low, unit_makes S (unit_name net k) call reply next (ap (λ (p : Party). step S p call) (sym who) ∙ stepped))
  | inr a ↦
      let high : length net.units ≤ k = grind (arith, a, nat_tests) in
      let who = at_terminal net k high in
      let within : k - length net.units < length net.terminals = omega (arith, high, few) in
      subst (λ (p : Party). IsCallOf p call) (sym who) (terminal_named net (k - length net.units) is within, terminal_makes S (terminal_name net (k - length net.units)) call reply next (ap (λ (p : Party). step S p call) (sym who) ∙ stepped))
]

-- the book with one entry more
pub kept_more : (b : Log) (k : ℕ) (call : Call) (reply : Reply) (S : State) → IsKept b → k < parties b.net → step b.state (party_at b.net k) call ≡ Some (reply, S) → IsWellFormed call → IsReplyTo call reply
    → IsKept (record { net = b.net; state = S; items = b.items ++ (k, entry_at b.net k call reply) ∷ [] })
kept_more b k call reply S kept few stepped well is =
    let item : Item = (k, entry_at b.net k call reply) in
    let more : entries (b.items ++ item ∷ []) ≡ entries b.items ++ item.1 ∷ [] = map_more (λ (x : Item). x.1) b.items item in
    record {
      sound = kept.sound;
      leads = subst (λ (es : List Entry). LeadsTo (opening b.net) es S) (sym more) (leads_more (opening b.net) (entries b.items) b.state S item.1 kept.leads stepped);
      numbered = all_more (IsNumbered b.net) b.items item kept.numbered record { within = few; party = refl };
      texts = subst (λ (es : List Entry). AllByRecursion HasText es) (sym more)
          (all_more HasText (entries b.items) item.1 kept.texts record { caller = call_of_party b.net k b.state S call reply kept.sound few stepped; call = well; reply = is });
    }

-- the lists of a book with one more item each
pub rows_more : (net : Net) (S T : State) (os more_os : List ℕ) (es more_es : List Entry) (k : ℕ) (call : Call) (reply : Reply) (who : Party) → length os ≡ length es → IsKept (record { net = net; state = S; items = zip os es }) → who ≡ party_at net k → k < parties net
    → step S who call ≡ Some (reply, T) → IsWellFormed call → IsReplyTo call reply → more_os ≡ os ++ k ∷ [] → more_es ≡ es ++ record { party = who; call = call; reply = reply } ∷ []
    → (length more_os ≡ length more_es) × IsKept (record { net = net; state = T; items = zip more_os more_es }) × (zip more_os more_es ≡ zip os es ++ (k, entry_at net k call reply) ∷ [])
rows_more net S T os more_os es more_es k call reply who same kept party few stepped well is o e =
    let z : zip more_os more_es ≡ zip os es ++ (k, entry_at net k call reply) ∷ [] = rw (o, e, party) (zip_more os es k (entry_at net k call reply) same) in
    let lo : length more_os ≡ length os + 1 = ap length o ∙ length-append os (k ∷ []) in
    let le : length more_es ≡ length es + 1 = ap length e ∙ length-append es (record { party = who; call = call; reply = reply } ∷ []) in (
      omega (arith, lo, le, same),
      subst (λ (zs : List Item). IsKept (record { net = net; state = T; items = zs })) (sym z)
          (kept_more (record { net = net; state = S; items = zip os es }) k call reply T kept few (subst (λ (p : Party). step S p call ≡ Some (reply, T)) party stepped) well is),
      z,
    )

pub room : (os : List ℕ) (es : List Entry) (items known : List Item) → length os ≡ length es → zip os es ≡ items → items ≡ known → length os < 2 ^ 63 → length known < 2 ^ 63
room os es items known same z i small = let a = zip_length os es same in let b = ap length z in let c = ap length i in omega (arith, a, b, c, small, same)

-- the pass at its turn, by what the book keeps
pub stands : (place : Place) (q : PassOf) (c : Log) → q.turn ≡ place.turn → q.at_turn ≡ true → c.net ≡ place.net → c.items ≡ q.seen → q.base ≡ Some place.net → q.opened ≡ [] → q.parties ≡ parties place.net → q.number < parties place.net → IsKept c → IsAtTurn place q c
stands place q c turn holds net items base opened many number kept =
    let sound : IsNet place.net = subst IsNet net kept.sound in
    let numbered : AreNumbered place.net q.seen = subst (λ (xs : List Item). AreNumbered place.net xs) items (subst (λ (m : Net). AreNumbered m c.items) net kept.numbered) in
    let leads : LeadsTo (opening place.net) (seen q) c.state = subst (λ (xs : List Item). LeadsTo (opening place.net) (entries xs) c.state) items (subst (λ (m : Net). LeadsTo (opening m) (entries c.items) c.state) net kept.leads) in
    record {
      turn = turn;
      holds = holds;
      net = net;
      items = items;
      knows = record {
        base = base;
        opened = opened;
        parties_are = many;
        number = number;
        legal = (c.state, leads);
        own_are = ap (λ (o : List Item). entries (filter (λ (x : Item). x.0 == q.number) (drop (length o) q.seen))) opened ∙ entries_by_number place.net q.number q.seen sound number numbered;
      };
      kept = kept;
    }

-- a turn begins
pub begun : (place : Place) (p q : PassOf) (c : Log) (log : List Item) (toggles : List Toggle) (turns : ℕ) → IsPass place p → q ≡ record p { seen = log; toggles = toggles; at_turn = true; turns = turns; found = None } → log ≡ c.items → p.base ≡ Some c.net → IsKept c → IsAtTurn place q c
begun place p q c log toggles turns h e items base kept =
    let same : c.net ≡ place.net = same_Some c.net place.net (sym base ∙ h.knows.base) in
    let z : PassOf = record p { seen = log; toggles = toggles; at_turn = true; turns = turns; found = None } in
    subst (λ (z : PassOf). IsAtTurn place z c) (sym e) (stands place z c h.turn refl same (sym items) h.knows.base h.knows.opened h.knows.parties_are h.knows.number kept)

-- an entry is made
pub one_more : (place : Place) (p q : PassOf) (b c : Log) (item : Item) → IsAtTurn place p b → q ≡ record p { seen = p.seen ++ item ∷ [] } → c.net ≡ b.net → c.items ≡ b.items ++ item ∷ [] → IsKept c → IsAtTurn place q c
one_more place p q b c item h e net items kept =
    let z : PassOf = record p { seen = p.seen ++ item ∷ [] } in
    subst (λ (z : PassOf). IsAtTurn place z c) (sym e)
    (stands place z c h.turn h.holds (net ∙ h.net) (items ∙ ap (λ (xs : List Item). xs ++ item ∷ []) h.items) h.knows.base h.knows.opened h.knows.parties_are h.knows.number kept)

-- whether a pass is active is no part of what it knows
pub still_turn : (place : Place) (p q : PassOf) (b : Log) (toggles : List Toggle) (active : Bool) (found : Option ℕ) → IsAtTurn place p b → q ≡ record p { toggles = toggles; active = active; found = found } → IsAtTurn place q b
still_turn place p q b toggles active found h e =
    let here : IsAtTurn place (record p { toggles = toggles; active = active; found = found }) b = record {
      turn = h.turn;
      holds = h.holds;
      net = h.net;
      items = h.items;
      kept = h.kept;
      knows = record { base = h.knows.base; opened = h.knows.opened; parties_are = h.knows.parties_are; number = h.knows.number; legal = h.knows.legal; own_are = h.knows.own_are };
    } in
    subst (λ (z : PassOf). IsAtTurn place z b) (sym e) here
