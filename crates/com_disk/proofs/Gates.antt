-- What a crash leaves in each of the steps by which bytes go behind a closed gate.
use Rattle.std.proofs.Common.{◌≡◌, ◌≢◌, ℕ, ◌+◌, List, [], ◌∷◌, ◌++◌, length, get_or, take, drop, inl, inr, sym, ◌∙◌, ap, subst, arith, append_assoc, length-append, take-append-drop}
use Rattle.std.proofs.lemmas.List.{take_at, drop_at, drop_more}
use Rattle.std.proofs.lemmas.Bool.{cases_eq}
use Rattle.com_disk.specs.Disks.{Holds, IsTorn, Follows, Only}
use Rattle.com_disk.specs.Logs.{IsShut}
use Rattle.com_disk.specs.inner.Shut.{IsShutOrLonger}

module _ (front : List ℕ) (at : ℕ) (place : length front ≡ at) (gate : ℕ) (rest : List ℕ) where
  split : front ++ gate ∷ rest ≡ (front ++ gate ∷ []) ++ rest
  split = sym (append_assoc front (gate ∷ []) rest)

  long : length (front ++ gate ∷ []) ≡ at + 1
  long = omega (arith, place, length-append front (gate ∷ []))

  head : take (at + 1) (front ++ gate ∷ rest) ≡ front ++ gate ∷ []
  head = ap (λ (l : List ℕ). take (at + 1) l) split ∙ take_at (front ++ gate ∷ []) rest (at + 1) long

  tail : drop (at + 1) (front ++ gate ∷ rest) ≡ rest
  tail = ap (λ (l : List ℕ). drop (at + 1) l) split ∙ drop_at (front ++ gate ∷ []) rest (at + 1) long

  -- the gate stands in each outcome of the first write
  pub torn_behind : (n : ℕ) (c : List ℕ) → IsTorn (at + 1) n (front ++ gate ∷ rest) c → c ≡ front ++ gate ∷ drop (at + 1) c
  torn_behind n c torn =
      sym (take-append-drop (at + 1) c) ∙ ap (λ (l : List ℕ). l ++ drop (at + 1) c) (torn.before ∙ head) ∙ append_assoc front (gate ∷ []) (drop (at + 1) c)

  pub written_behind : (bytes c : List ℕ) → Holds (front ++ gate ∷ rest) (at + 1) bytes c → c ≡ front ++ gate ∷ (bytes ++ drop (at + 1 + length bytes) (front ++ gate ∷ rest))
  written_behind bytes c holds =
      holds
      ∙ ap (λ (l : List ℕ). l ++ bytes ++ drop (at + 1 + length bytes) (front ++ gate ∷ rest)) head
      ∙ append_assoc (front ++ gate ∷ []) bytes (drop (at + 1 + length bytes) (front ++ gate ∷ rest))
      ∙ append_assoc front (gate ∷ []) (bytes ++ drop (at + 1 + length bytes) (front ++ gate ∷ rest))

  size : length (front ++ gate ∷ rest) ≡ at + 1 + length rest
  size = omega (arith, place, length-append front (gate ∷ rest))

  -- all but the gate stands in each outcome of the second write
  pub torn_gate : (c : List ℕ) → IsTorn at 1 (front ++ gate ∷ rest) c → c ≡ front ++ get_or c at 0 ∷ rest
  torn_gate c torn =
      sym (take-append-drop at c)
      ∙ ap (λ (l : List ℕ). l ++ drop at c) (torn.before ∙ take_at front (gate ∷ rest) at place)
      ∙ ap (λ (l : List ℕ). front ++ l) (drop_more c at 0 (omega (arith, torn.no_shorter, size)) ∙ ap (λ (l : List ℕ). get_or c at 0 ∷ l) (torn.after ∙ tail))

  pub written_gate : (c : List ℕ) → Holds (front ++ gate ∷ rest) at (1 ∷ []) c → c ≡ front ++ 1 ∷ rest
  written_gate c holds =
      holds
      ∙ ap (λ (l : List ℕ). l ++ (1 ∷ []) ++ drop (at + 1) (front ++ gate ∷ rest)) (take_at front (gate ∷ rest) at place)
      ∙ ap (λ (l : List ℕ). front ++ (1 ∷ []) ++ l) tail
      ∙ append_assoc front (1 ∷ []) rest

-- any byte as the gate
pub any_gate : (front bare rest : List ℕ) (gate : ℕ) (c : List ℕ) → c ≡ front ++ gate ∷ ((bare ++ 0 ∷ []) ++ rest) → IsShutOrLonger front bare c
any_gate front bare rest gate c is = elim (cases_eq gate 1) [
  | inl one ↦ inr (record {
    gate = 0;
    rest = rest;
    closed = omega arith;
    bytes = is ∙ ap (λ (g : ℕ). front ++ g ∷ ((bare ++ 0 ∷ []) ++ rest)) one ∙ ap (λ (l : List ℕ). front ++ 1 ∷ l) (append_assoc bare (0 ∷ []) rest) ∙ sym (append_assoc front (1 ∷ bare) (0 ∷ rest));
  })
  | inr other ↦ inl (record { gate = gate; rest = (bare ++ 0 ∷ []) ++ rest; closed = other; bytes = is })
]

-- the bytes stand with a closed gate behind a closed gate
pub record IsStaged (front bare image : List ℕ) : Type 0 where
  pub gate : ℕ
  pub rest : List ℕ
  pub closed : gate ≢ 1
  pub bytes : image ≡ front ++ gate ∷ ((bare ++ 0 ∷ []) ++ rest)

module _ (front : List ℕ) (at : ℕ) (place : length front ≡ at) where
  -- what a crash leaves after the first write
  pub stage_crash : (n : ℕ) (content : List ℕ) (old new : List ℕ → Type 0) → IsShut front content → Only content old → Follows (IsTorn (at + 1) n) old new → (c : List ℕ) → new c → IsShut front c
  stage_crash n content old new shut only follows c left =
      let from = follows c left in
      record {
        gate = shut.gate;
        rest = drop (at + 1) c;
        closed = shut.closed;
        bytes = torn_behind front at place shut.gate shut.rest n c (subst (λ d. IsTorn (at + 1) n d c) (only from.0 from.1 ∙ shut.bytes) from.2);
      }

  -- and what a read gives
  pub torn_shut : (n : ℕ) (content c : List ℕ) → IsShut front content → IsTorn (at + 1) n content c → IsShut front c
  torn_shut n content c shut torn = record {
    gate = shut.gate;
    rest = drop (at + 1) c;
    closed = shut.closed;
    bytes = torn_behind front at place shut.gate shut.rest n c (subst (λ d. IsTorn (at + 1) n d c) shut.bytes torn);
  }

  pub staged : (bare bytes content c : List ℕ) → bytes ≡ bare ++ 0 ∷ [] → IsShut front content → Holds content (at + 1) bytes c → IsStaged front bare c
  staged bare bytes content c is shut holds = record {
    gate = shut.gate;
    rest = drop (at + 1 + length bytes) (front ++ shut.gate ∷ shut.rest);
    closed = shut.closed;
    bytes = written_behind front at place shut.gate shut.rest bytes c (subst (λ d. Holds d (at + 1) bytes c) shut.bytes holds)
        ∙ ap (λ (l : List ℕ). front ++ shut.gate ∷ (l ++ drop (at + 1 + length bytes) (front ++ shut.gate ∷ shut.rest))) is;
  }

  pub staged_shut : (bare c : List ℕ) → IsStaged front bare c → IsShut front c
  staged_shut bare c s = record { gate = s.gate; rest = (bare ++ 0 ∷ []) ++ s.rest; closed = s.closed; bytes = s.bytes }

  -- what a crash leaves after the second write
  pub gate_crash : (bare content : List ℕ) (old new : List ℕ → Type 0) → IsStaged front bare content → Only content old → Follows (IsTorn at 1) old new → (c : List ℕ) → new c → IsShutOrLonger front bare c
  gate_crash bare content old new s only follows c left =
      let from = follows c left in
      any_gate front bare s.rest (get_or c at 0) c (torn_gate front at place s.gate ((bare ++ 0 ∷ []) ++ s.rest) c (subst (λ d. IsTorn at 1 d c) (only from.0 from.1 ∙ s.bytes) from.2))

  pub opened : (bare content c : List ℕ) → IsStaged front bare content → Holds content at (1 ∷ []) c → IsShut (front ++ 1 ∷ bare) c
  opened bare content c s holds = record {
    gate = 0;
    rest = s.rest;
    closed = omega arith;
    bytes = written_gate front at place s.gate ((bare ++ 0 ∷ []) ++ s.rest) c (subst (λ d. Holds d at (1 ∷ []) c) s.bytes holds)
        ∙ ap (λ (l : List ℕ). front ++ 1 ∷ l) (append_assoc bare (0 ∷ []) s.rest) ∙ sym (append_assoc front (1 ∷ bare) (0 ∷ s.rest));
  }

-- the front is longer by an open gate and these bytes
pub longer : (front bare : List ℕ) (at : ℕ) → length front ≡ at → length (front ++ 1 ∷ bare) ≡ at + (length bare + 1)
longer front bare at place = omega (arith, place, length-append front (1 ∷ bare))
