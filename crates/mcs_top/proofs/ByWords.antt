-- Words ask for one command at most.
use Rattle.std.proofs.Common.{◌≡◌, ℕ, List, [], get_or, sym, ◌∙◌, ap, refl, arith}
use Rattle.com_io.specs.Stores.{Shown}
use Rattle.com_msg.specs.declared.framing.Framing.{Framing}
use Rattle.com_msg.specs.declared.framing.Framing.TheVariants.{Marks, Lines}
use Rattle.mcs_top.specs.Words.{IsReplay, IsCheck, IsShow, IsNoCommand, framing_word}
use Rattle.mcs_top.specs.Outcome.{IsUsageOutcome, IsReplayOutcome, IsCheckOutcome, IsShowOutcome, IsOutcome}

-- what stands at a place of three words, where there are three
abbrev first_of_three : List (List ℕ) → List ℕ
first_of_three words = get_or words 0 []

abbrev second_of_three : List (List ℕ) → List ℕ
second_of_three words = get_or words 1 []

abbrev third_of_three : List (List ℕ) → List ℕ
third_of_three words = get_or words 2 []

-- the words of `replay` are those of no `show`
not_both : (words : List (List ℕ)) (net_file script_file file : List ℕ) (framing : Framing) → IsReplay words net_file script_file → IsShow words framing file → ⊥
not_both words net_file script_file file framing replay show =
    let letters : 114 ≡ 115 = ap (λ word. get_or word 0 0) (ap first_of_three (sym replay.all ∙ show.all)) in
    omega (arith, letters)

-- nor of a check
not_replay : (words : List (List ℕ)) (net_file script_file file : List ℕ) → IsReplay words net_file script_file → IsCheck words file → ⊥
not_replay words net_file script_file file replay check =
    let letters : 114 ≡ 99 = ap (λ word. get_or word 0 0) (ap first_of_three (sym replay.all ∙ check.all)) in
    omega (arith, letters)

-- and the words of a check are those of no `show`
not_show : (words : List (List ℕ)) (net_file file : List ℕ) (framing : Framing) → IsCheck words net_file → IsShow words framing file → ⊥
not_show words net_file file framing check show =
    let letters : 99 ≡ 115 = ap (λ word. get_or word 0 0) (ap first_of_three (sym check.all ∙ show.all)) in
    omega (arith, letters)

one_checked : (words : List (List ℕ)) (a b : List ℕ) → IsCheck words a → IsCheck words b → a ≡ b
one_checked words a b first second = ap second_of_three (sym first.all ∙ second.all)

one_net : (words : List (List ℕ)) (a b c d : List ℕ) → IsReplay words a b → IsReplay words c d → a ≡ c
one_net words a b c d first second = ap second_of_three (sym first.all ∙ second.all)

one_script : (words : List (List ℕ)) (a b c d : List ℕ) → IsReplay words a b → IsReplay words c d → b ≡ d
one_script words a b c d first second = ap third_of_three (sym first.all ∙ second.all)

one_file : (words : List (List ℕ)) (f g : Framing) (a b : List ℕ) → IsShow words f a → IsShow words g b → a ≡ b
one_file words f g a b first second = ap third_of_three (sym first.all ∙ second.all)

same_framing : (f g : Framing) → framing_word f ≡ framing_word g → f ≡ g
same_framing Marks Marks same = refl
same_framing Marks Lines same = let letters : 109 ≡ 108 = ap (λ word. get_or word 0 0) same in absurd (omega (arith, letters))
same_framing Lines Marks same = let letters : 108 ≡ 109 = ap (λ word. get_or word 0 0) same in absurd (omega (arith, letters))
same_framing Lines Lines same = refl

one_framing : (words : List (List ℕ)) (f g : Framing) (a b : List ℕ) → IsShow words f a → IsShow words g b → f ≡ g
one_framing words f g a b first second = same_framing f g (ap second_of_three (sym first.all ∙ second.all))

pub of_no_command : (words : List (List ℕ)) (status : ℕ) (before after : Shown) → IsNoCommand words → IsUsageOutcome status before after → after.pending ≡ before.pending → IsOutcome words status before after
of_no_command words status before after none outcome pending = record {
  usage = λ _. outcome;
  replay = λ net_file script_file is. absurd (none.replay net_file script_file is);
  check = λ net_file is. absurd (none.check net_file is);
  show = λ framing file is. absurd (none.show framing file is);
  pending = pending;
}

pub of_replay : (words : List (List ℕ)) (net_file script_file : List ℕ) (status : ℕ) (before after : Shown) → IsReplay words net_file script_file → IsReplayOutcome net_file script_file status before after
    → after.pending ≡ before.pending → IsOutcome words status before after
of_replay words net_file script_file status before after is outcome pending = record {
  usage = λ none. absurd (none.replay net_file script_file is);
  replay = λ a b other. rw (one_net words a b net_file script_file other is, one_script words a b net_file script_file other is) outcome;
  check = λ file check. absurd (not_replay words net_file script_file file is check);
  show = λ framing file show. absurd (not_both words net_file script_file file framing is show);
  pending = pending;
}

pub of_check : (words : List (List ℕ)) (net_file : List ℕ) (status : ℕ) (before after : Shown) → IsCheck words net_file → IsCheckOutcome net_file status before after → after.pending ≡ before.pending
    → IsOutcome words status before after
of_check words net_file status before after is outcome pending = record {
  usage = λ none. absurd (none.check net_file is);
  replay = λ a b replay. absurd (not_replay words a b net_file replay is);
  check = λ a other. rw (one_checked words a net_file other is) outcome;
  show = λ framing file show. absurd (not_show words net_file file framing is show);
  pending = pending;
}

pub of_show : (words : List (List ℕ)) (framing : Framing) (file : List ℕ) (status : ℕ) (before after : Shown) → IsShow words framing file → IsShowOutcome framing file status before after
    → after.pending ≡ before.pending → IsOutcome words status before after
of_show words framing file status before after is outcome pending = record {
  usage = λ none. absurd (none.show framing file is);
  replay = λ net_file script_file replay. absurd (not_both words net_file script_file file framing replay is);
  check = λ net_file check. absurd (not_show words net_file file framing check is);
  show = λ f a other. rw (one_framing words f framing a file other is, one_file words f framing a file other is) outcome;
  pending = pending;
}
