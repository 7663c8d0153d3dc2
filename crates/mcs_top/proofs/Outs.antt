-- Writing outputs one after another.
use Rattle.std.proofs.Common.{◌≡◌, ℕ, suc, zero, ◌+◌, ◌<◌, List, [], ◌∷◌, ◌++◌, length, take, drop, get_or, Option, Some, None, refl, ap, sym, subst, ◌∙◌, inl, arith, append_assoc, length-take}
use Rattle.std.specs.Prelude.{Result, Ok, Err, OnOk, IfErr, IsOk, IsErrOf, option_map, unwrap_or}
use Rattle.std.proofs.lemmas.Option.{none-some, same_Some}
use Rattle.std.proofs.lemmas.List.{take_more, take-append-drop, append-nil}
use Rattle.com_io.specs.declared.store.StoreFault.{StoreFault}
use Rattle.com_io.specs.declared.store.StoreFault.TheVariants as store
use Rattle.com_io.specs.Faults.{HasCause}
use Rattle.com_io.specs.Files.{HasNoFault}
use Rattle.com_io.specs.Stores.{Contents, Shown, Writing, with_output, IsUndone, IsWriting}
use Rattle.com_msg.specs.declared.sending.OutMessage.{OutMessage}
use Rattle.com_net.specs.declared.net.Terminal.{Terminal}
use Rattle.com_state.specs.State.{State}
use Rattle.com_send.specs.Outgoing.{Outgoing, transmitted_to}
use Rattle.com_state.specs.Transcripts.{sent_to, sent_in}
use Rattle.mcs_top.specs.Outputs.{contents_after, writing}
use Rattle.mcs_top.specs.Running.{AreWritten, IsCutIn, IsCounted, transcript, transcripts_in}

-- counts that stay twice stay
pub no_fault_then : (before mid after : Shown) → HasNoFault before mid → HasNoFault mid after → HasNoFault before after
no_fault_then before mid after first second = record {
  pending = second.pending ∙ first.pending;
  open_faults = second.open_faults ∙ first.open_faults;
  read_faults = second.read_faults ∙ first.read_faults;
  write_faults = second.write_faults ∙ first.write_faults;
}

after_append : (a b : List Writing) (c : Contents) → contents_after (a ++ b) c ≡ contents_after b (contents_after a c)
after_append [] b c = refl
after_append (write ∷ a) b c = after_append a b (with_output write.name write.bytes c)

mapped_append : (a b : List Writing) (held : Option Contents) → option_map (contents_after (a ++ b)) held ≡ option_map (contents_after b) (option_map (contents_after a) held)
mapped_append a b None = refl
mapped_append a b (Some c) = ap Some (after_append a b c)

mapped_none : (held : Option Contents) → option_map (contents_after []) held ≡ held
mapped_none None = refl
mapped_none (Some c) = refl

mapped_one : (name bytes : List ℕ) (held : Option Contents) → option_map (contents_after (writing name bytes ∷ [])) held ≡ option_map (with_output name bytes) held
mapped_one name bytes None = refl
mapped_one name bytes (Some c) = refl

-- nothing was written yet
pub none_written : (before : Shown) → AreWritten [] before before
none_written before = record {
  contents = sym (mapped_none before.contents);
  no_fault = record { pending = refl; open_faults = refl; read_faults = refl; write_faults = refl };
}

-- some writes, and others behind them
pub written_then : (a b : List Writing) (before mid after : Shown) → AreWritten a before mid → AreWritten b mid after → AreWritten (a ++ b) before after
written_then a b before mid after first second = record {
  contents = second.contents ∙ (ap (option_map (contents_after b)) first.contents ∙ sym (mapped_append a b before.contents));
  no_fault = no_fault_then before mid after first.no_fault second.no_fault;
}

-- the writes are cut short in the first ones
pub cut_early : (a b : List Writing) (before after : Shown) (fault : StoreFault) → IsCutIn a before after fault → IsCutIn (a ++ b) before after fault
cut_early a b before after fault h = record {
  contents = record {
    done = h.contents.done;
    next = h.contents.next;
    rest = h.contents.rest ++ b;
    split = ap (λ (writes : List Writing). writes ++ b) h.contents.split ∙ append_assoc h.contents.done (h.contents.next ∷ h.contents.rest) b;
    undone = h.contents.undone;
  };
  write_faults = h.write_faults;
  open_faults = h.open_faults;
  read_faults = h.read_faults;
  pending = h.pending;
}

-- or behind those that were done
pub cut_later : (a b : List Writing) (before mid after : Shown) (fault : StoreFault) → AreWritten a before mid → IsCutIn b mid after fault → IsCutIn (a ++ b) before after fault
cut_later a b before mid after fault first h =
    let held = ap (option_map (contents_after h.contents.done)) first.contents ∙ sym (mapped_append a h.contents.done before.contents) in
    record {
      contents = record {
        done = a ++ h.contents.done;
        next = h.contents.next;
        rest = h.contents.rest;
        split = ap (λ (writes : List Writing). a ++ writes) h.contents.split ∙ sym (append_assoc a h.contents.done (h.contents.next ∷ h.contents.rest));
        undone = subst (λ (o : Option Contents). IsUndone fault h.contents.next.name h.contents.next.bytes o after.contents) held h.contents.undone;
      };
      write_faults = subst (λ (n : ℕ). IsCounted fault n after.write_faults) first.no_fault.write_faults h.write_faults;
      open_faults = h.open_faults ∙ first.no_fault.open_faults;
      read_faults = h.read_faults ∙ first.no_fault.read_faults;
      pending = h.pending ∙ first.no_fault.pending;
    }

-- one write that was not done
one_cut : (name bytes : List ℕ) (before after : Shown) (fault : StoreFault) → IsUndone fault name bytes before.contents after.contents → IsCounted fault before.write_faults after.write_faults
    → after.open_faults ≡ before.open_faults → after.read_faults ≡ before.read_faults → after.pending ≡ before.pending → IsCutIn (writing name bytes ∷ []) before after fault
one_cut name bytes before after fault undone counted open_faults read_faults pending = record {
  contents = record {
    done = [];
    next = writing name bytes;
    rest = [];
    split = refl;
    undone = subst (λ (o : Option Contents). IsUndone fault name bytes o after.contents) (sym (mapped_none before.contents)) undone;
  };
  write_faults = counted;
  open_faults = open_faults;
  read_faults = read_faults;
  pending = pending;
}

-- memory ran out before the write
pub not_begun : (write : Writing) (before : Shown) → IsCutIn (write ∷ []) before before store.Memory
not_begun write before = one_cut write.name write.bytes before before store.Memory (inl refl) refl refl refl refl

-- a write that is done, and one that is not
pub one_write : {T : Type 0} (name bytes : List ℕ) (result : Result T StoreFault) (before after : Shown) → IsWriting name bytes result before.contents after.contents
    → HasCause before.write_faults after.write_faults (IsOk result) (IsErrOf result store.Failed) → after.open_faults ≡ before.open_faults → after.read_faults ≡ before.read_faults → after.pending ≡ before.pending
    → OnOk result (AreWritten (writing name bytes ∷ []) before after)
one_write {T} name bytes (Ok done) before after written cause open_faults read_faults pending = record {
  contents = written ∙ sym (mapped_one name bytes before.contents);
  no_fault = record { pending = pending; open_faults = open_faults; read_faults = read_faults; write_faults = cause.kept refl };
}
one_write {T} name bytes (Err fault) before after written cause open_faults read_faults pending = tt

pub one_failed : {T : Type 0} (name bytes : List ℕ) (result : Result T StoreFault) (before after : Shown) → IsWriting name bytes result before.contents after.contents
    → HasCause before.write_faults after.write_faults (IsOk result) (IsErrOf result store.Failed) → (IsErrOf result store.Memory → after.write_faults ≡ before.write_faults)
    → after.open_faults ≡ before.open_faults → after.read_faults ≡ before.read_faults → after.pending ≡ before.pending
    → IfErr result (IsCutIn (writing name bytes ∷ []) before after)
one_failed {T} name bytes (Ok done) before after written cause memory open_faults read_faults pending = tt
one_failed {T} name bytes (Err store.Failed) before after written cause memory open_faults read_faults pending =
    one_cut name bytes before after store.Failed written (cause.rose refl) open_faults read_faults pending
one_failed {T} name bytes (Err store.Memory) before after written cause memory open_faults read_faults pending =
    one_cut name bytes before after store.Memory written (memory refl) open_faults read_faults pending

-- transcripts of some terminals, and of those behind them
transcripts_append : (S : State) (n : ℕ) (a b : List Terminal) → transcripts_in S n (a ++ b) ≡ transcripts_in S n a ++ transcripts_in S (n + length a) b
transcripts_append S n [] b =
    let same : n + 0 ≡ n = omega arith in
    ap (λ (k : ℕ). transcripts_in S k b) (sym same)
transcripts_append S n (terminal ∷ a) b =
    let behind : n + 1 + length a ≡ n + suc (length a) = omega arith in
    ap (λ (writes : List Writing). transcript terminal.name (unwrap_or (sent_to S n) []) ∷ writes) (rw behind at (transcripts_append S (n + 1) a b))

-- so many transcripts, and one more
pub transcripts_more : (S : State) (terminals : List Terminal) (i : ℕ) (terminal d : Terminal) (messages : List OutMessage) → i < length terminals → terminal ≡ get_or terminals i d → sent_to S i ≡ Some messages
    → transcripts_in S 0 (take (i + 1) terminals) ≡ transcripts_in S 0 (take i terminals) ++ transcript terminal.name messages ∷ []
transcripts_more S terminals i terminal d messages within is sent =
    let at : 0 + length (take i terminals) ≡ i = omega (arith, length-take i terminals, within) in
    ap (transcripts_in S 0) (take_more terminals i d within ∙ ap (λ (t : Terminal). take i terminals ++ t ∷ []) (sym is))
    ∙ (transcripts_append S 0 (take i terminals) (terminal ∷ [])
    ∙ ap (λ (writes : List Writing). transcripts_in S 0 (take i terminals) ++ writes) (rw (at, sent) refl))

-- all transcripts are so many, one more, and the others
pub transcripts_around : (S : State) (terminals : List Terminal) (i : ℕ) (terminal d : Terminal) (messages : List OutMessage) → i < length terminals → terminal ≡ get_or terminals i d → sent_to S i ≡ Some messages
    → (rest : List Writing) × (transcripts_in S 0 terminals ≡ (transcripts_in S 0 (take i terminals) ++ transcript terminal.name messages ∷ []) ++ rest)
transcripts_around S terminals i terminal d messages within is sent =
    let front = take (i + 1) terminals in
    let behind = transcripts_in S (0 + length front) (drop (i + 1) terminals) in (
      behind,
      ap (transcripts_in S 0) (sym (take-append-drop (i + 1) terminals))
          ∙ (transcripts_append S 0 front (drop (i + 1) terminals) ∙ ap (λ (writes : List Writing). writes ++ behind) (transcripts_more S terminals i terminal d messages within is sent)),
    )

-- what was transmitted to so many terminals, and to one more
pub sent_more : (outgoing : Outgoing) (i : ℕ) (messages : List OutMessage) → transmitted_to outgoing i ≡ Some messages → sent_in (take (suc i) outgoing) ≡ sent_in (take i outgoing) ++ messages
sent_more [] i messages h = absurd (none-some messages h)
sent_more (destination ∷ outgoing) zero messages h = append-nil destination.sent ∙ same_Some destination.sent messages h
sent_more (destination ∷ outgoing) (suc i) messages h =
    ap (λ (sent : List OutMessage). destination.sent ++ sent) (sent_more outgoing i messages h) ∙ sym (append_assoc destination.sent (sent_in (take i outgoing)) messages)
