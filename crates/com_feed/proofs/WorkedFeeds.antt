-- A terminal whose input ends in the middle of a message, worked out by hand.
use Rattle.std.proofs.lemmas.List.{length-take, take_all}
use Rattle.std.proofs.Common.{◌≡◌, ◌≤◌, inl, inr, ℕ, zero, suc, List, [], ◌∷◌, ◌++◌, length, Some, None, refl, sym, ap, subst, ◌∙◌, codes, arith, length-append}
use Rattle.std.proofs.lemmas.List.Elements.{All-cons, All-nil}
use Rattle.std.specs.Prelude.{IsFalse}
use Rattle.com_text.specs.Text.{IsText}
use Rattle.com_msg.specs.Stamp.{Moment}
use Rattle.com_msg.specs.declared.message.End.TheVariants.{Emi}
use Rattle.com_msg.specs.declared.message.RawMessage.{RawMessage}
use Rattle.com_msg.specs.declared.framing.Framing.{Framing}
use Rattle.com_msg.specs.declared.framing.Framing.TheVariants.{Marks}
use Rattle.com_msg.specs.declared.framing.FrameFault.{FrameFault}
use Rattle.com_msg.specs.declared.framing.FrameKind.TheVariants.{BadByte, Truncated}
use Rattle.com_io.specs.Files.{file_limit}
use Rattle.com_lines.specs.Frames.{IsClear, IsFramed}
use Rattle.com_events.specs.declared.call.Party.{Party}
use Rattle.com_events.specs.declared.call.EndReason.TheVariants as finish
use Rattle.com_events.specs.declared.call.Call.TheVariants as call
use Rattle.com_events.specs.declared.reply.Reply.TheVariants as reply
use Rattle.com_events.specs.declared.entry.Entry.{Entry}
use Rattle.com_events.specs.declared.call.EndReason.{EndReason}
use Rattle.com_feed.specs.Fed.{AreFed, Fed, FedSoFar, Gives, finished, held, is_end}
use Rattle.com_feed.proofs.Ends.{gives-unique}
use Rattle.com_feed.proofs.Fronts.{earlier_so_far}

-- AB and its end, an LF, and CD without an end
abbrev input : List ℕ
input = 0x41 ∷ 0x42 ∷ 3 ∷ 10 ∷ 0x43 ∷ 0x44 ∷ []

abbrev ab : RawMessage
ab = record { segments = codes "AB" ∷ []; end = Emi }

abbrev fault : FrameFault
fault = record { at = 6; kind = Truncated }

clear : IsClear Marks input 6
clear zero lt within = refl
clear (suc zero) lt within = refl
clear (suc (suc zero)) lt within = refl
clear (suc (suc (suc zero))) lt within = refl
clear (suc (suc (suc (suc zero)))) lt within = refl
clear (suc (suc (suc (suc (suc zero))))) lt within = refl
clear (suc (suc (suc (suc (suc (suc i)))))) lt within = let never : ⊥ = omega arith in absurd never

framed : IsFramed Marks ab
framed = record { segments = omega arith; texts = All-cons IsText (codes "AB") [] refl (All-nil IsText) }

given : Gives Marks input None (finish.Frame fault) (ab ∷ [])
given = inl (omega arith, (inr (record { at_end = refl; kind = refl; clear = clear }), record { framed = All-cons (IsFramed Marks) ab [] framed (All-nil (IsFramed Marks)); spelled = refl }))

-- A source that failed gave no more than is looked at
given_is_looked_at : (framing : Framing) (bytes given : List ℕ) (messages : List RawMessage) → Gives framing bytes (Some given) finish.Fault messages → length given ≤ file_limit
given_is_looked_at framing bytes given messages h = omega (arith, ap length h.front.1, length-append given h.front.0, length-take file_limit bytes)

-- and where a fault of the framing is settled in what it gave, that fault is told: here A, and a byte that is none
abbrev bad : List ℕ
bad = 0x41 ∷ 1 ∷ []

abbrev bad_byte : FrameFault
bad_byte = record { at = 1; kind = BadByte }

clear_before : IsClear Marks bad 1
clear_before zero lt within = refl
clear_before (suc i) lt within = let never : ⊥ = omega arith in absurd never

settled_is_told : (messages : List RawMessage) → Gives Marks bad (Some bad) finish.Fault messages → ⊥
settled_is_told messages h = h.unsettled bad_byte (record { first_fault = record { within = omega arith; kind = refl; first = clear_before }; settled = omega arith })

-- its source fails after the C
abbrev gone : List ℕ
gone = 0x41 ∷ 0x42 ∷ 3 ∷ 10 ∷ 0x43 ∷ []

gone_clear : IsClear Marks gone 5
gone_clear zero lt within = refl
gone_clear (suc zero) lt within = refl
gone_clear (suc (suc zero)) lt within = refl
gone_clear (suc (suc (suc zero))) lt within = refl
gone_clear (suc (suc (suc (suc zero)))) lt within = refl
gone_clear (suc (suc (suc (suc (suc i))))) lt within = let never : ⊥ = omega arith in absurd never

gone_given : Gives Marks input (Some gone) finish.Fault (ab ∷ [])
gone_given = record {
  front = (0x44 ∷ [], take_all file_limit input (omega arith));
  unsettled = λ fault h. let none = gone_clear fault.at h.first_fault.within h.first_fault.within in let kind = h.first_fault.kind in absurd cc;
  ended = inl (gone_clear, record { framed = All-cons (IsFramed Marks) ab [] framed (All-nil (IsFramed Marks)); spelled = refl });
}

module _ (party : Party) (stamp : Moment) where
  abbrev arrives : Entry
  arrives = record { party = party; call = call.Arrive stamp ab; reply = reply.Arrived 1 }

  -- it arrives, and the terminal ends with FRAME
  ended : Fed party Marks input None (arrives ∷ finished party (finish.Frame fault) ∷ [])
  ended = record { before = arrives ∷ []; reason = finish.Frame fault; ended = refl; are_fed = given }

  -- or it does not arrive, and the terminal ends with IDLE, when it was held
  idle : Fed party Marks input None (held party ∷ finished party finish.Idle ∷ [])
  idle = record {
    before = held party ∷ [];
    reason = finish.Idle;
    ended = refl;
    are_fed = record { reason = finish.Frame fault; all = ab ∷ []; gives = given; missing = (ab ∷ [], refl, λ e. cc e); earlier = []; held = refl };
  }

  -- where its source fails it arrives too, and the terminal ends with FAULT
  failed : Fed party Marks input (Some gone) (arrives ∷ finished party finish.Fault ∷ [])
  failed = record { before = arrives ∷ []; reason = finish.Fault; ended = refl; are_fed = gone_given }

  -- and before that it is fed so far
  failing : FedSoFar party Marks input (Some gone) (arrives ∷ [])
  failing = earlier_so_far party Marks input (Some gone) (arrives ∷ []) (finished party finish.Fault ∷ []) (inl failed) (All-cons (λ (entry : Entry). IsFalse (is_end entry.call)) arrives [] refl (All-nil (λ (entry : Entry). IsFalse (is_end entry.call))))

  -- before the end, the message has arrived or not
  at_first : FedSoFar party Marks input None []
  at_first = inr (record { no_end = All-nil (λ (entry : Entry). IsFalse (is_end entry.call)); arrivals = record { reason = finish.Frame fault; all = ab ∷ []; gives = given; prefix = (ab ∷ [], refl) } })

  same_parts : (xs ys : List Entry) (a b : Entry) → xs ++ a ∷ [] ≡ ys ++ b ∷ [] → (xs ≡ ys) × (a ≡ b)
  same_parts [] [] a b h = (refl, cc)
  same_parts [] (y ∷ ys) a b h = let never : ⊥ = omega (arith, ap length h, length-append ys (b ∷ [])) in absurd never
  same_parts (x ∷ xs) [] a b h = let never : ⊥ = omega (arith, ap length h, length-append xs (a ∷ [])) in absurd never
  same_parts (x ∷ xs) (y ∷ ys) a b h = let others = same_parts xs ys a b (tails h) in (ap (λ z. z ∷ xs) (heads h) ∙ ap (λ l. y ∷ l) others.0, others.1)
    where
      heads : x ∷ (xs ++ a ∷ []) ≡ y ∷ (ys ++ b ∷ []) → x ≡ y
      heads h = cc

      tails : x ∷ (xs ++ a ∷ []) ≡ y ∷ (ys ++ b ∷ []) → xs ++ a ∷ [] ≡ ys ++ b ∷ []
      tails h = cc

  same_reason : (r s : EndReason) → finished party r ≡ finished party s → r ≡ s
  same_reason r s h = by (ap (λ (entry : Entry). entry.call) h)
    where
      by : call.Finish r ≡ call.Finish s → r ≡ s
      by h = cc

  -- the entries before END are those of its input, by its reason
  told : (before : List Entry) (reason : EndReason) → Fed party Marks input None (before ++ finished party reason ∷ []) → AreFed party Marks input None reason before
  told before reason fed =
      let parts = same_parts before fed.before (finished party reason) (finished party fed.reason) fed.ended in
      subst (λ l. AreFed party Marks input None reason l) (sym parts.0)
      (subst (λ r. AreFed party Marks input None r fed.before) (sym (same_reason reason fed.reason parts.1)) fed.are_fed)

  -- IDLE comes only behind HELD
  never_held : Fed party Marks input None (finished party finish.Idle ∷ []) → ⊥
  never_held fed = let h = told [] finish.Idle fed in omega (arith, ap length h.held, length-append h.earlier (held party ∷ []))

  -- and not where all messages have arrived
  nothing_missing : Fed party Marks input None (arrives ∷ held party ∷ finished party finish.Idle ∷ []) → ⊥
  nothing_missing fed =
      let h = told (arrives ∷ held party ∷ []) finish.Idle fed in
      let all = (gives-unique Marks input h.reason (finish.Frame fault) h.all (ab ∷ []) h.gives given).1 in
      h.missing.2 (by h.missing.0 (omega (arith, ap length all, ap length h.missing.1)))
    where
      by : (rest : List RawMessage) → length rest ≡ 0 → rest ≡ []
      by [] e = refl
      by (m ∷ rest) e = let never : ⊥ = omega (arith, e) in absurd never

  -- the reason is that of the input
  wrong_reason : Fed party Marks input None (arrives ∷ finished party finish.End ∷ []) → ⊥
  wrong_reason fed = by (gives-unique Marks input finish.End (finish.Frame fault) (ab ∷ []) (ab ∷ []) (told (arrives ∷ []) finish.End fed) given).0
    where
      by : finish.End ≡ finish.Frame fault → ⊥
      by e = cc

  -- and no message is lost
  lost : Fed party Marks input None (finished party (finish.Frame fault) ∷ []) → ⊥
  lost fed = let both = gives-unique Marks input (finish.Frame fault) (finish.Frame fault) [] (ab ∷ []) (told [] (finish.Frame fault) fed) given in omega (arith, ap length both.1)
