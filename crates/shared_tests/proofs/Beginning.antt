-- What the passes of a new system are, and those with which it may be closed.
use Rattle.std.proofs.Common.{◌≡◌, ℕ, ◌-◌, ◌<◌, ◌≤◌, ◌==◌, true, List, [], ◌∷◌, ◌++◌, length, take, drop, get_or, refl, ap, sym, ◌∙◌, subst, arith}
use Rattle.std.specs.Prelude.{is_some, slice_get}
use Rattle.std.specs.List.{All, filter}
use Rattle.std.proofs.Math.Seq.{take-append_seam}
use Rattle.std.proofs.lemmas.Option.{slice_get_within, slice_get-get_or, get_or_from_slice_get}
use Rattle.com_turn.proofs.Lists.{slice_get-front, slice_get-last}
use Rattle.com_state.specs.Parties.{unit_by, terminal_by}
use Rattle.com_state.specs.Steps.{feed_of}
use Rattle.com_shared.specs.Parties.{Item, entries}
use Rattle.com_shared.specs.Passes.{Place, PassOf, IsPass, IsNew, MayClose, MayAllClose, own}
use Rattle.shared_tests.specs.Playing.{Sleeps, Feeds, AllNew, IsFresh, AllStayFresh, HaveAllLeft}

-- the passes but the last, and the last
pub new_front : (place : Place) (all xs : List PassOf) (x : PassOf) → all ≡ xs ++ x ∷ [] → AllNew place all → AllNew place xs
new_front place all xs x e new k pass at = new k pass (ap (λ (l : List PassOf). slice_get l k) e ∙ (slice_get-front xs (x ∷ []) k (slice_get_within xs k pass at) ∙ at))

pub new_last : (place : Place) (all xs : List PassOf) (x : PassOf) → all ≡ xs ++ x ∷ [] → AllNew place all → IsNew place (length xs) x
new_last place all xs x e new = new (length xs) x (ap (λ (l : List PassOf). slice_get l (length xs)) e ∙ slice_get-last xs x (length xs) refl)

-- a new pass's party has made no entry
pub new_fresh : (place : Place) (k : ℕ) (pass : PassOf) → IsNew place k pass → IsFresh place pass
new_fresh place k pass new = record {
  ours = new.ours;
  unmade = ap (λ (o : List Item). entries (filter (λ (x : Item). x.0 == pass.number) (drop (length o) pass.seen))) new.ours.knows.opened
      ∙ ap (λ (xs : List Item). entries (filter (λ (x : Item). x.0 == pass.number) xs)) new.nothing;
}

pub all_fresh : (place : Place) (passes : List PassOf) → AllNew place passes → All (IsFresh place) passes
all_fresh place passes new k d few = new_fresh place k (get_or passes k d) (new k (get_or passes k d) (slice_get-get_or passes k d few))

pub fresh_sleeps : (place : Place) (pass : PassOf) → IsFresh place pass → pass.number < length place.net.units → Sleeps place pass
fresh_sleeps place pass fresh few = record { ours = fresh.ours; unit = few; opening = ap unit_by fresh.unmade }

pub fresh_feeds : (place : Place) (pass : PassOf) → IsFresh place pass → length place.net.units ≤ pass.number → is_some (feed_of place.net (pass.number - length place.net.units)) ≡ true → Feeds place 0 pass
fresh_feeds place pass fresh many route = record { ours = fresh.ours; terminal = many; route = route; feeding = ap terminal_by fresh.unmade }

-- a pass whose party has made no entry since
pub still_fresh : (place : Place) (v w : PassOf) → IsFresh place v → IsPass place w → own w ≡ own v → IsFresh place w
still_fresh place v w fresh ours same = record { ours = ours; unmade = same ∙ fresh.unmade }

-- the passes of parties that have made no entry since
pub all_stay_fresh : (place : Place) (before after : List PassOf) → length after ≡ length before → AllStayFresh place before after → All (IsFresh place) after
all_stay_fresh place before after same stay k d few = (stay k d (omega (arith, few, same))).fresh

pub leaves_later : (place : Place) (before mid after : List PassOf) → length mid ≡ length before → AllStayFresh place before mid → HaveAllLeft place mid after → HaveAllLeft place before after
leaves_later place before mid after same stay left k d few =
    record { closes = subst (λ (n : ℕ). MayClose place n (get_or after k d)) (stay k d few).number (left k d (omega (arith, few, same))).closes }

-- the passes with which the system may be closed
pub all_close : (place : Place) (new after : List PassOf) → AllNew place new → length after ≡ length new → HaveAllLeft place new after → MayAllClose place after
all_close place new after fresh same left k pass at =
    let within : k < length after = slice_get_within after k pass at in
    let few : k < length new = omega (arith, within, same) in
    let here : get_or after k pass ≡ pass = get_or_from_slice_get after k pass pass at in
    let number : (get_or new k pass).number ≡ k = (fresh k (get_or new k pass) (slice_get-get_or new k pass few)).number_is in
    subst (λ (p : PassOf). MayClose place k p) here (subst (λ (n : ℕ). MayClose place n (get_or after k pass)) number (left k pass few).closes)

-- a slice that a call has written, of the same length, is what it wrote
pub written_back : {X : Type 0} (n : ℕ) (new items : List X) → length new ≡ n → take n (new ++ drop (length new) items) ≡ new
written_back n new items e = ap (λ k. take k (new ++ drop (length new) items)) (sym e) ∙ take-append_seam new (drop (length new) items)

pub ruleset beginning = (fresh_sleeps, fresh_feeds, still_fresh)
