-- Each call that a program makes is well formed, where the replies fit the calls before.
use Rattle.std.proofs.Common.{◌≡◌, ℕ, ◌+◌, ◌-◌, ◌≤◌, Bool, true, false, List, [], ◌∷◌, ◌++◌, length, drop, Option, Some, None, refl, sym, subst, ◌∙◌, arith, if◌then◌else◌}
use Rattle.std.specs.Prelude.{IfSome}
use Rattle.std.specs.List.{AllByRecursion, flat_map}
use Rattle.com_cd.proofs.Parted.{IsText-with_part, length-with_part}
use Rattle.com_events.specs.Calls.{AreNames, IsWellFormed}
use Rattle.com_events.specs.declared.call.Call.{Call}
use Rattle.com_events.specs.declared.reply.Reply.{Reply}
use Rattle.cob_lex.specs.declared.fault.SourceFault.{SourceFault}
use Rattle.cob_forms.specs.Faults.{earlier, first, is_before}
use Rattle.com_text.proofs.Texts.{IsText-digits}
use Rattle.cob_proc.specs.declared.tree.Key.{Key}
use Rattle.cob_proc.specs.declared.tree.Key.TheVariants as keys
use Rattle.cob_proc.specs.declared.tree.Operand.{Operand}
use Rattle.cob_proc.specs.declared.tree.Operand.TheVariants as operands
use Rattle.cob_proc.specs.Trees.{Plain, moves, adds, subtracts, performs, goes, exits, stops, sends, switches_input, switches_output, accepts, Tree, plain, branches, receives, Block, none, lead, ParagraphTree}
use Rattle.cob_meaning.specs.Checked.{AreChecked, AreCheckedParagraphs, IsCheckedKey, IsCheckedOperand, IsCheckedPlain, IsCheckedStatement, IsCheckedText}
use Rattle.cob_meaning.specs.Layouts.{Layout}
use Rattle.cob_meaning.specs.Meaning.{Run, Outcome, Normal, Jump, Stops, Needs, Limits, Program, are_written, beginning, meaning_of, meaning_within, with_names}
use Rattle.cob_meaning.specs.Moves.{add, move, subtract}
use Rattle.cob_meaning.specs.Names.{all_faults, any_item, condition_faults, ending_faults, identifier_faults, input_faults, names_faults, output_faults, plain_faults, sentences_faults, some_identifier_faults, statement_faults}
use Rattle.cob_meaning.specs.Sound.{AreFit, AreWellFormed, IsFit, IsSound}
use Rattle.cob_meaning.specs.Storage.{Storage, area_in}
use Rattle.cob_meaning.specs.Verbs.{Request, accept, receive, send, switch_input, switch_output}
use Rattle.cob_meaning.proofs.Lasting.{AllKept, AreKept, Asks, Facts, Fine, IsTextKept, Keeps, Kept, PlainKept, range_lasts}
use Rattle.cob_meaning.proofs.Stored.{IsStorage, IsTextOperand, combined_stored, move_stored, opens, with_area_stored}
use Rattle.cob_meaning.proofs.WellFormed.{IsSane, IsTextKey, accept_sane, both_empty, receive_sane, send_sane, switch_input_sane, switch_output_sane}

-- the replies to some calls fit, and so does the next
fit_last : (calls : List Call) (call : Call) (reply : Reply) (all rest : List Reply) → drop (length calls) all ≡ reply ∷ rest → AreFit (calls ++ call ∷ []) all → AreFit calls all × IsFit call reply
fit_last [] call reply [] rest e h = absurd h
fit_last [] call reply (x ∷ all) rest e h = (tt, subst (IsFit call) (heads e) h.0)
  where
    heads : x ∷ all ≡ reply ∷ rest → x ≡ reply
    heads e = cc
fit_last (c ∷ calls) call reply [] rest e h = absurd h
fit_last (c ∷ calls) call reply (x ∷ all) rest e h = let others = fit_last calls call reply all rest e h.1 in ((h.0, others.0), others.1)

drop_next : (calls : List Call) (call : Call) (reply : Reply) (all rest : List Reply) → drop (length calls) all ≡ reply ∷ rest → rest ≡ drop (length (calls ++ call ∷ [])) all
drop_next [] call reply [] rest e = absurd cc
drop_next [] call reply (x ∷ all) rest e = sym (tails e)
  where
    tails : x ∷ all ≡ reply ∷ rest → all ≡ rest
    tails e = cc
drop_next (c ∷ calls) call reply [] rest e = absurd cc
drop_next (c ∷ calls) call reply (x ∷ all) rest e = drop_next calls call reply all rest e

all_and : (calls : List Call) (call : Call) → AllByRecursion IsWellFormed calls → IsWellFormed call → AllByRecursion IsWellFormed (calls ++ call ∷ [])
all_and [] call h one = (one, tt)
all_and (c ∷ calls) call h one = (h.0, all_and calls call h.1 one)

no_faults : (faults : List SourceFault) → first faults ≡ None → faults ≡ []
no_faults [] e = refl
no_faults (x ∷ faults) e = absurd (by (first faults) e)
  where
    pick : (b : Bool) (y : SourceFault) → (if b then Some y else Some x) ≡ None → ⊥
    pick true y e = absurd cc
    pick false y e = absurd cc

    by : (o : Option SourceFault) → earlier (Some x) o ≡ None → ⊥
    by None e = absurd cc
    by (Some y) e = pick (is_before y x) y e

text_operand : (layout : Layout) (o : Operand) → IsCheckedOperand layout o → IsTextOperand o
text_operand layout (operands.Item identifier) h = tt
text_operand layout (operands.Literal literal) h = h.text
text_operand layout (operands.Number n) h = IsText-digits n.digits h.are_digits
text_operand layout (operands.Spaces position) h = tt
text_operand layout (operands.Zeros position) h = tt

text_key : (layout : Layout) (k : Key) → IsCheckedKey layout k → IsTextKey k
text_key layout (keys.Item identifier) h = tt
text_key layout (keys.Literal literal) h = h.0.text

module _ (layout : Layout) (sound : IsSound layout) (text : List ParagraphTree) (all : List Reply) where
  -- where the replies fit the calls so far, storage is sound and the calls are well formed
  record Held (run : Run) : Type 0 where
    rest : run.replies ≡ drop (length run.calls) all
    stored : AreFit run.calls all → IsStorage layout.opening run.storage
    calls : AreFit run.calls all → AllByRecursion IsWellFormed run.calls

  abbrev facts : Facts
  facts = record {
    Holds = Held;
    Stopping = λ reason run. (AreFit run.calls all → AllByRecursion IsWellFormed run.calls);
    Wanting = λ call run. (AreFit run.calls all → AllByRecursion IsWellFormed run.calls × IsWellFormed call);
    begins = λ run left h. record { rest = h.rest; stored = h.stored; calls = h.calls };
    limit = λ run h. h.calls;
    fault = λ run h. h.calls;
    ends = λ run h. h.calls;
  }

  keeps : (effect : Storage → Option Storage) → ((storage after : Storage) → IsStorage layout.opening storage → effect storage ≡ Some after → IsStorage layout.opening after) → Keeps facts effect
  keeps effect k = record { from = λ run storage h e. record { rest = h.rest; stored = λ fit. k run.storage storage (h.stored fit) e; calls = h.calls } }

  asks : (request : Storage → Option Request) → ((storage : Storage) (stored : IsStorage layout.opening storage) (asked : Request) → request storage ≡ Some asked → IsSane layout sound storage stored asked) → Asks facts request
  asks request sane = record {
    wants = λ run verbs asked h e empty fit. (h.calls fit, (sane run.storage (h.stored fit) asked e).well);
    takes = λ run verbs asked reply rest h e next.
        let line = sym h.rest ∙ next in
        record {
          rest = drop_next run.calls asked.call reply all rest line;
          stored = λ fit. let both = fit_last run.calls asked.call reply all rest line fit in (sane run.storage (h.stored both.0) asked e).takes reply both.1;
          calls = λ fit.
              let both = fit_last run.calls asked.call reply all rest line fit in
              all_and run.calls asked.call (h.calls both.0) (sane run.storage (h.stored both.0) asked e).well;
        };
    stops = λ run verbs h e. h.calls;
  }

  plain_kept : (s : Plain) → IsCheckedPlain layout text s → plain_faults layout text s ≡ [] → PlainKept facts layout text s
  plain_kept (moves source targets) t e = keeps (move layout source targets) (λ storage after h f. move_stored layout sound source (text_operand layout source t.0) targets storage after h f)
  plain_kept (adds addend target) t e = keeps (add layout addend target) (λ storage after h f. combined_stored layout sound (λ m n. m + n) addend target storage after h f)
  plain_kept (subtracts addend target) t e = keeps (subtract layout addend target) (λ storage after h f. combined_stored layout sound (λ m n. (m - n) + (n - m)) addend target storage after h f)
  plain_kept (performs begin last often) t e = tt
  plain_kept (goes target) t e = tt
  plain_kept exits t e = tt
  plain_kept stops t e = tt
  plain_kept (sends cd from ending) t e =
      let parts = both_empty (output_faults layout cd ++ some_identifier_faults layout from) (ending_faults layout ending) e in
      let right = (both_empty (output_faults layout cd) (some_identifier_faults layout from) parts.0).0 in
      asks (send layout cd from ending) (λ storage stored asked f. send_sane layout sound storage stored cd from ending asked right f)
  plain_kept (switches_input on terminal cd key) t e =
      let parts = both_empty _ _ e in
      asks (switch_input layout on terminal cd key) (λ storage stored asked f. switch_input_sane layout sound storage stored on terminal cd key asked parts.0 (text_key layout key t.1) parts.1 f)
  plain_kept (switches_output on cd key) t e =
      let parts = both_empty _ _ e in
      asks (switch_output layout on cd key) (λ storage stored asked f. switch_output_sane layout sound storage stored on cd key asked parts.0 (text_key layout key t.1) parts.1 f)
  plain_kept (accepts cd) t e = asks (accept layout cd) (λ storage stored asked f. accept_sane layout sound storage stored cd asked e f)

  mutual
    kept : (s : Tree) → IsCheckedStatement layout text s → statement_faults layout text s ≡ [] → Kept facts layout text s
    kept (plain statement) t e = plain_kept statement t e
    kept (branches position condition one other) t e =
        let parts = both_empty (condition_faults layout condition ++ all_faults layout text one) (all_faults layout text other) e in
        (all_kept one t.1 (both_empty (condition_faults layout condition) (all_faults layout text one) parts.0).1, all_kept other t.2 parts.1)
    kept (receives cd segment into no_data) t e =
        let parts = both_empty (input_faults layout cd ++ identifier_faults layout any_item into) (all_faults layout text no_data) e in
        let right = (both_empty (input_faults layout cd) (identifier_faults layout any_item into) parts.0).0 in (
          asks (receive layout cd segment into (are_written no_data)) (λ storage stored asked f. receive_sane layout sound storage stored cd segment into (are_written no_data) asked right f),
          all_kept no_data t.2 parts.1,
        )

    all_kept : (block : Block) → AreChecked layout text block → all_faults layout text block ≡ [] → AllKept facts layout text block
    all_kept none t e = tt
    all_kept (lead one others) t e = let parts = both_empty _ _ e in (kept one t.0 parts.0, all_kept others t.1 parts.1)

  are_kept : (blocks : List Block) → AllByRecursion (AreChecked layout text) blocks → flat_map (all_faults layout text) blocks ≡ [] → AreKept facts layout text blocks
  are_kept [] t e = tt
  are_kept (one ∷ others) t e = let parts = both_empty _ _ e in (all_kept one t.0 parts.0, are_kept others t.1 parts.1)

  is_kept : (ps : List ParagraphTree) → AreCheckedParagraphs layout text ps → flat_map (sentences_faults layout text) ps ≡ [] → IsTextKept facts layout text ps
  is_kept [] t e = tt
  is_kept (p ∷ ps) t e = let parts = both_empty _ _ e in (are_kept p.sentences t.0 parts.0, is_kept ps t.1 parts.1)

named_stored : (layout : Layout) → IsSound layout → (names : Option (List ℕ)) → IfSome names AreNames → IsStorage layout.opening (with_names layout.initial names layout.opening)
named_stored layout sound names are = by layout.initial names sound.initial are
  where
    by : (initial : Option ℕ) (names : Option (List ℕ)) → IfSome initial (λ area. 48 ≤ length (area_in layout.opening area)) → IfSome names AreNames → IsStorage layout.opening (with_names initial names layout.opening)
    by (Some area) (Some names) long are =
        with_area_stored layout.opening layout.opening area _ (opens layout.opening sound.texts)
        (IsText-with_part 0 (length names) (area_in layout.opening area) names (opens layout.opening sound.texts area).0 are.0)
        (length-with_part 0 (length names) (area_in layout.opening area) names (omega (arith, are.1)) refl)
    by None names long are = opens layout.opening sound.texts
    by (Some area) None long are = opens layout.opening sound.texts

module _ (limits : Limits) (program : Program) (names : Option (List ℕ)) (replies : List Reply) (sound : IsSound program.layout) where
  outcome : (o : Outcome) → Fine (facts program.layout sound program.text replies) o → AreFit (meaning_of o).calls replies → AreWellFormed (meaning_of o)
  outcome (Normal run) h fit = record { answered = h.calls fit; wanted = tt }
  outcome (Jump to run) h fit = record { answered = h.calls fit; wanted = tt }
  outcome (Stops reason run) h fit = record { answered = h fit; wanted = tt }
  outcome (Needs call run) h fit = let both = h fit in record { answered = both.0; wanted = both.1 }

  pub calls_well : IsCheckedText program.layout program.text → first (names_faults program) ≡ None → IfSome names AreNames
      → AreFit (meaning_within limits program names replies).calls replies → AreWellFormed (meaning_within limits program names replies)
  calls_well texts right are fit =
      let lasts = range_lasts (facts program.layout sound program.text replies) program.layout program.text (limits.statements + 1)
      (is_kept program.layout sound program.text replies program.text texts (no_faults (names_faults program) right)) 0 (length program.text - 1) in
      outcome _ (lasts.from (beginning limits program.layout names replies) (record { rest = refl; stored = λ fit. named_stored program.layout sound names are; calls = λ fit. tt })) fit
