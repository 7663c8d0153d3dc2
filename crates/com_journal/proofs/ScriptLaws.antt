-- Bytes are the script of one list of calls at most, and have one fault at most.
use Rattle.std.proofs.Common.{◌≡◌, ℕ, suc, ◌+◌, List, [], ◌∷◌, ◌++◌, length, refl, sym, ap, ◌∙◌, subst}
use Rattle.std.proofs.lemmas.Option.{same_Some}
use Rattle.com_events.specs.declared.call.Party.{Party}
use Rattle.com_events.specs.declared.call.Call.{Call}
use Rattle.com_journal.specs.declared.fault.JournalKind.{JournalKind}
use Rattle.com_journal.specs.declared.fault.JournalKind.TheVariants.{BadHeader, BadLine, NoLineEnd}
use Rattle.com_journal.specs.declared.fault.JournalFault.{JournalFault}
use Rattle.com_journal.specs.Lines.{IsCallText}
use Rattle.com_journal.specs.Scripts.{AreCalls, IsScript}
use Rattle.com_journal.specs.Faults.{IsScriptFaultAt, IsScriptFault}
use Rattle.com_journal.proofs.JournalLaws.{one_fault_at}
use Rattle.com_journal.proofs.LineLaws.{call-complete}

same_call : (a b : Party × Call) (line : List ℕ) → IsCallText a.0 a.1 line → IsCallText b.0 b.1 line → a ≡ b
same_call a b line h k = same_Some a b (sym (call-complete line a.0 a.1 h) ∙ call-complete line b.0 b.1 k)

same_texts : (a b : List (Party × Call)) (lines : List (List ℕ)) → AreCalls a lines → AreCalls b lines → a ≡ b
same_texts [] [] [] h k = refl
same_texts (first ∷ a) (second ∷ b) (line ∷ lines) h k =
    let head = same_call first second line h.0 k.0 in
    let tail = same_texts a b lines h.1 k.1 in
    rw (head, tail) refl
same_texts [] (second ∷ b) [] h k = absurd k
same_texts (first ∷ a) [] [] h k = absurd h
same_texts (first ∷ a) (second ∷ b) [] h k = absurd h
same_texts [] b (line ∷ lines) h k = absurd h
same_texts (first ∷ a) [] (line ∷ lines) h k = absurd k

same_tail : {x y : List ℕ} {xs ys : List (List ℕ)} → x ∷ xs ≡ y ∷ ys → xs ≡ ys
same_tail e = cc

same_head : {x y : List ℕ} {xs ys : List (List ℕ)} → x ∷ xs ≡ y ∷ ys → x ≡ y
same_head e = cc

pub same_calls : (a b : List (Party × Call)) (bytes : List ℕ) → IsScript a bytes → IsScript b bytes → a ≡ b
same_calls a b bytes h k =
    let lines : h.0 ≡ k.0 = same_tail (sym h.1 ∙ k.1) in
    same_texts a b k.0 (subst (AreCalls a) lines h.2) k.2

-- each line of a script after its header is a call's text
no_other : (calls : List (Party × Call)) (front : List (List ℕ)) (line : List ℕ) (behind : List (List ℕ)) → AreCalls calls (front ++ line ∷ behind) → ((party : Party) (call : Call) → IsCallText party call line → ⊥) → ⊥
no_other [] [] line behind h none = h
no_other (call ∷ calls) [] line behind h none = none call.0 call.1 h.0
no_other [] (first ∷ front) line behind h none = h
no_other (call ∷ calls) (first ∷ front) line behind h none = no_other calls front line behind h.1 none

no_fault_at : (calls : List (Party × Call)) (bytes : List ℕ) (kind : JournalKind) (number : ℕ) → IsScript calls bytes → IsScriptFaultAt kind number bytes → ⊥
no_fault_at calls bytes BadHeader number h f = f.1 h.0 h.1
no_fault_at calls bytes BadLine number h f =
    let lines : h.0 ≡ f.front ++ f.line ∷ f.behind = same_tail (sym h.1 ∙ f.split) in
    no_other calls f.front f.line f.behind (subst (AreCalls calls) lines h.2) f.none
no_fault_at calls bytes NoLineEnd number h f = f

pub no_script_fault : (calls : List (Party × Call)) (bytes : List ℕ) (fault : JournalFault) → IsScript calls bytes → IsScriptFault bytes fault → ⊥
no_script_fault calls bytes fault h f = no_fault_at calls bytes fault.kind fault.line h f

-- the first line that is no call's text stands at one place
one_place : (a b : List (Party × Call)) (f g : List (List ℕ)) (one other : List ℕ) (x y : List (List ℕ)) → AreCalls a f → AreCalls b g
    → ((party : Party) (call : Call) → IsCallText party call one → ⊥) → ((party : Party) (call : Call) → IsCallText party call other → ⊥) → f ++ one ∷ x ≡ g ++ other ∷ y → length f ≡ length g
one_place a b [] [] one other x y h k p q e = refl
one_place a (call ∷ b) [] (line ∷ g) one other x y h k p q e =
    absurd (p call.0 call.1 (subst (IsCallText call.0 call.1) (sym (same_head e)) k.0))
one_place (call ∷ a) b (line ∷ f) [] one other x y h k p q e =
    absurd (q call.0 call.1 (subst (IsCallText call.0 call.1) (same_head e) h.0))
one_place (first ∷ a) (second ∷ b) (line ∷ f) (next ∷ g) one other x y h k p q e =
    ap suc (one_place a b f g one other x y h.1 k.1 p q (same_tail e))
one_place a [] [] (line ∷ g) one other x y h k p q e = absurd k
one_place [] b (line ∷ f) [] one other x y h k p q e = absurd h
one_place [] b (line ∷ f) (next ∷ g) one other x y h k p q e = absurd h
one_place (first ∷ a) [] (line ∷ f) (next ∷ g) one other x y h k p q e = absurd k

one_at : (bytes : List ℕ) (a b : JournalKind) (m n : ℕ) → IsScriptFaultAt a m bytes → IsScriptFaultAt b n bytes → (a ≡ b) × (m ≡ n)
one_at bytes BadHeader BadHeader m n h k = (refl, h.0 ∙ sym k.0)
one_at bytes BadHeader BadLine m n h k = absurd (h.1 (k.front ++ k.line ∷ k.behind) k.split)
one_at bytes BadLine BadHeader m n h k = absurd (k.1 (h.front ++ h.line ∷ h.behind) h.split)
one_at bytes BadLine BadLine m n h k =
    let place = one_place h.calls k.calls h.front k.front h.line k.line h.behind k.behind h.are_calls k.are_calls h.none k.none (same_tail (sym h.split ∙ k.split)) in
    (refl, h.number_is ∙ (ap (λ i. i + 2) place ∙ sym k.number_is))
one_at bytes NoLineEnd b m n h k = absurd h
one_at bytes BadHeader NoLineEnd m n h k = absurd k
one_at bytes BadLine NoLineEnd m n h k = absurd k

pub one_script_fault : (bytes : List ℕ) (a b : JournalFault) → IsScriptFault bytes a → IsScriptFault bytes b → a ≡ b
one_script_fault bytes a b h k =
    let same = one_at bytes a.kind b.kind a.line b.line h k in
    one_fault_at a b same.1 same.0
