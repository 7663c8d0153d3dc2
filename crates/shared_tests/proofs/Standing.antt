-- What calls leave of parties between rounds.
use Rattle.std.proofs.Common.{◌≡◌, ℕ, ◌<◌, zero, suc, false, List, [], ◌∷◌, ◌++◌, length, map, Some, slice_index_or, refl, ap, sym, ◌∙◌, subst, inl, inr, arith}
use Rattle.std.specs.Prelude.{◌⊎◌, slice_get, All}
use Rattle.std.proofs.lemmas.List.{length-map}
use Rattle.std.proofs.lemmas.Option.{slice_get_within}
use Rattle.com_turn.proofs.Lists.{None-Some, Some-injective}
use Rattle.com_msg.specs.declared.rest.Kind.TheVariants.{Message}
use Rattle.com_events.specs.declared.entry.Entry.{Entry}
use Rattle.com_state.specs.declared.parties.TheConstants.{MAX_VERBS}
use Rattle.com_state.specs.declared.parties.UnitMode.TheVariants.{Running}
use Rattle.com_state.specs.Parties.{unit_by}
use Rattle.com_shared.specs.Passes.{Place, PassOf, IsPass, MayClose, MayAllClose, own, unit_now, EndsWith}
use Rattle.com_shared.specs.Waits.{waits_entry}
use Rattle.shared_tests.specs.declared.rounds.Stands.{Stands}
use Rattle.shared_tests.specs.declared.rounds.Stands.TheVariants.{Fresh, Waits, Out}
use Rattle.shared_tests.specs.declared.rounds.Member.{Member}
use Rattle.shared_tests.specs.Playing.{Receives, AllNew}
use Rattle.shared_tests.specs.Standing.{StandsAt, IsMember, HaveAllPlayed, AreAllOut}
use Rattle.shared_tests.proofs.Playing.{goes_on, may_receive}
use Rattle.shared_tests.proofs.Beginning.{new_fresh, fresh_sleeps, fresh_feeds, still_fresh}

-- what makes no entry leaves a unit's wait as it was
receives_still : (place : Place) (n : ℕ) (area : List ℕ) (v w : PassOf) → Receives place n area v → IsPass place w → w.number ≡ v.number → own w ≡ own v → Receives place n area w
receives_still place n area v w h ours number same =
    record {
      ours = ours;
      may = record {
        unit = subst (λ (k : ℕ). k < length place.net.units) (sym number) h.may.unit;
        left = subst (λ (es : List Entry). (unit_by es).verbs < MAX_VERBS) (sym same) h.may.left;
        runs_or_waits = runs_or_waits h.may.runs_or_waits;
      };
      verbs = ap (λ (es : List Entry). (unit_by es).verbs) same ∙ h.verbs;
    }
  where
    wait_at : ℕ → Entry
    wait_at k = waits_entry place.net k area Message 20

    runs_or_waits : ((unit_now v).mode ≡ Running) ⊎ ((false ≡ false) × EndsWith (own v) (wait_at v.number)) → ((unit_now w).mode ≡ Running) ⊎ ((false ≡ false) × EndsWith (own w) (wait_at w.number))
    runs_or_waits (inl runs) = inl (ap (λ (es : List Entry). (unit_by es).mode) same ∙ runs)
    runs_or_waits (inr waits) = inr (refl, (waits.1.0, same ∙ (waits.1.1 ∙ ap (λ (k : ℕ). waits.1.0 ++ wait_at k ∷ []) (sym number))))

-- what makes no entry leaves a party where it stands
pub stands_still : (place : Place) (s : Stands) (area : List ℕ) (v w : PassOf) → StandsAt place s area v → IsPass place w → w.number ≡ v.number → own w ≡ own v → StandsAt place s area w
stands_still place Fresh area v w h ours number same = still_fresh place v w h ours same
stands_still place Waits area v w h ours number same = receives_still place 0 area v w h ours number same
stands_still place Out area v w h ours number same = ours

-- a party's pass is one of the system
pub stands_ours : (place : Place) (s : Stands) (area : List ℕ) (v : PassOf) → StandsAt place s area v → IsPass place v
stands_ours place Fresh area v h = h.ours
stands_ours place Waits area v h = h.ours
stands_ours place Out area v h = h

-- the parties between two rounds

pub all_played : (place : Place) (before after : List Member) → length after ≡ length before → HaveAllPlayed place before after → All (IsMember place) after
all_played place before after same played k d few = (played k d (omega (arith, few, same))).stands

pub out_later : (place : Place) (before mid after : List Member) → length mid ≡ length before → HaveAllPlayed place before mid → AreAllOut place mid after → AreAllOut place before after
out_later place before mid after same played out k d few =
    record { closes = subst (λ (n : ℕ). MayClose place n (slice_index_or after k d).pass) (played k d few).number (out k d (omega (arith, few, same))).closes }

-- what holds of each item's image holds of the items of the map
all_map : {A B : Type 0} (f : A → B) (P : ℕ → B → Type 0) (xs : List A) → ((k : ℕ) (x : A) → slice_get xs k ≡ Some x → P k (f x)) → (k : ℕ) (d : B) → k < length (map f xs) → P k (slice_index_or (map f xs) k d)
all_map f P [] h k d few = absurd (omega (arith, few))
all_map f P (x ∷ xs) h zero d few = h zero x refl
all_map f P (x ∷ xs) h (suc k) d few = all_map f (λ j y. P (suc j) y) xs (λ j y at. h (suc j) y at) k d (omega (arith, few))

-- an item of the map is the image of the item there
map_item : {A B : Type 0} (f : A → B) (xs : List A) (k : ℕ) (d : A) (y : B) → slice_get (map f xs) k ≡ Some y → f (slice_index_or xs k d) ≡ y
map_item f [] k d y at = absurd (None-Some y at)
map_item f (x ∷ xs) zero d y at = Some-injective (f x) y at
map_item f (x ∷ xs) (suc k) d y at = map_item f xs k d y at

-- a party that has made no call
abbrev pub fresh_member : List ℕ → PassOf → Member
fresh_member area pass = record { pass = pass; area = area; stands = Fresh }

pub all_members : (place : Place) (area : List ℕ) (passes : List PassOf) → AllNew place passes → All (IsMember place) (map (fresh_member area) passes)
all_members place area passes new = all_map (fresh_member area) (λ k m. IsMember place m) passes (λ k pass at. new_fresh place k pass (new k pass at))

numbered : (place : Place) (area : List ℕ) (passes : List PassOf) → AllNew place passes → (k : ℕ) (d : Member) → k < length (map (fresh_member area) passes) → (slice_index_or (map (fresh_member area) passes) k d).pass.number ≡ k
numbered place area passes new = all_map (fresh_member area) (λ k m. m.pass.number ≡ k) passes (λ k pass at. (new k pass at).number_is)

-- the passes with which the system may be closed
pub all_out : (place : Place) (area : List ℕ) (new : List PassOf) (after : List Member) → AllNew place new → length after ≡ length new → AreAllOut place (map (fresh_member area) new) after → MayAllClose place (map (λ m. m.pass) after)
all_out place area new after fresh same out k pass at =
    let d : Member = fresh_member area pass in
    let before : List Member = map (fresh_member area) new in
    let within : k < length (map (λ (m : Member). m.pass) after) = slice_get_within _ k pass at in
    let few : k < length before = omega (arith, within, same, length-map after (λ (m : Member). m.pass), length-map new (fresh_member area)) in
    let here : (slice_index_or after k d).pass ≡ pass = map_item (λ (m : Member). m.pass) after k d pass at in
    subst (λ (p : PassOf). MayClose place k p) here (subst (λ (n : ℕ). MayClose place n (slice_index_or after k d).pass) (numbered place area new fresh k d few) (out k d few).closes)

pub ruleset standing = (goes_on, may_receive, fresh_sleeps, fresh_feeds, stands_still, stands_ours)

pub ruleset playing_on = (all_played)
