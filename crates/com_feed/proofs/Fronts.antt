-- The entries up to one of a terminal's own.
use Rattle.std.proofs.Common.{◌≡◌, ◌⊎◌, inl, inr, ℕ, List, [], ◌∷◌, ◌++◌, refl, ap, subst, ◌∙◌}
use Rattle.std.specs.Prelude.{Option}
use Rattle.std.proofs.lemmas.Grind.{flat_map-append}
use Rattle.std.proofs.lemmas.List.{append-nil}
use Rattle.com_msg.specs.declared.framing.Framing.{Framing}
use Rattle.com_events.specs.declared.call.Party.{Party}
use Rattle.com_events.specs.declared.call.EndReason.{EndReason}
use Rattle.com_events.specs.declared.call.EndReason.TheVariants as finish
use Rattle.com_events.specs.declared.entry.Entry.{Entry}
use Rattle.com_feed.specs.Fed.{AreFed, AreFirst, Fed, FedSoFar, HasNoEnd, arrivals_of, finished, message_of}
use Rattle.com_feed.proofs.Wholes.{first-front, first-given}

-- what arrives in some entries and then in others
pub arrivals-append : (xs ys : List Entry) → arrivals_of (xs ++ ys) ≡ arrivals_of xs ++ arrivals_of ys
arrivals-append xs ys = flat_map-append (λ (entry : Entry). message_of entry.call) xs ys

abbrev tail : List Entry → List Entry
tail [] = []
tail (x ∷ xs) = xs

none_behind : (front rest : List Entry) → front ++ rest ≡ [] → rest ≡ []
none_behind [] rest e = e
none_behind (f ∷ front) rest e = let never : ⊥ = cc e in absurd never

-- a front of a list is all of it, or stands before its last item
before_last : (front rest before : List Entry) (last : Entry) → front ++ rest ≡ before ++ last ∷ [] → (rest ≡ []) ⊎ ((more : List Entry) × (before ≡ front ++ more))
before_last [] [] before last e = inl refl
before_last [] (r ∷ rest) before last e = inr (before, refl)
before_last (f ∷ front) rest [] last e = inl (none_behind front rest (ap tail e))
before_last (f ∷ front) rest (b ∷ before) last e =
    let first : f ≡ b = cc in
    by (before_last front rest before last (ap tail e)) first
  where
    by : (rest ≡ []) ⊎ ((more : List Entry) × (before ≡ front ++ more)) → f ≡ b → (rest ≡ []) ⊎ ((more : List Entry) × (b ∷ before ≡ f ∷ front ++ more))
    by (inl none) first = inl none
    by (inr more) first = inr (more.0, let m = more.1 in cc)

module _ (party : Party) (framing : Framing) (bytes : List ℕ) (lost : Option (List ℕ)) where
  -- what has arrived by the end comes first
  first : (reason : EndReason) (before : List Entry) → AreFed party framing bytes lost reason before → AreFirst framing bytes (arrivals_of before)
  first finish.End before h = first-given framing bytes lost finish.End (arrivals_of before) h
  first (finish.Frame fault) before h = first-given framing bytes lost (finish.Frame fault) (arrivals_of before) h
  first finish.Long before h = first-given framing bytes lost finish.Long (arrivals_of before) h
  first finish.Fault before h = first-given framing bytes lost finish.Fault (arrivals_of before) h
  first finish.Idle before h =
      let all = first-given framing bytes lost h.reason h.all h.gives in
      first-front framing bytes (arrivals_of before) h.missing.0 (subst (λ l. AreFirst framing bytes l) h.missing.1 all)

  pub front_so_far : (front rest : List Entry) → Fed party framing bytes lost (front ++ rest) → HasNoEnd front → FedSoFar party framing bytes lost front
  front_so_far front rest h no_end = by (before_last front rest h.before (finished party h.reason) h.ended)
    where
      by : (rest ≡ []) ⊎ ((more : List Entry) × (h.before ≡ front ++ more)) → FedSoFar party framing bytes lost front
      by (inl none) = inl (subst (λ l. Fed party framing bytes lost l) (ap (λ l. front ++ l) none ∙ append-nil front) h)
      by (inr more) =
          let arrived : arrivals_of h.before ≡ arrivals_of front ++ arrivals_of more.0 = ap arrivals_of more.1 ∙ arrivals-append front more.0 in
          inr (record { no_end = no_end; arrivals = first-front framing bytes (arrivals_of front) (arrivals_of more.0) (subst (λ l. AreFirst framing bytes l) arrived (first h.reason h.before h.are_fed)) })

  -- what is fed at some time was fed before
  pub earlier_so_far : (front rest : List Entry) → FedSoFar party framing bytes lost (front ++ rest) → HasNoEnd front → FedSoFar party framing bytes lost front
  earlier_so_far front rest (inl h) no_end = front_so_far front rest h no_end
  earlier_so_far front rest (inr h) no_end =
      inr (record { no_end = no_end; arrivals = first-front framing bytes (arrivals_of front) (arrivals_of rest) (subst (λ l. AreFirst framing bytes l) (arrivals-append front rest) h.arrivals) })
