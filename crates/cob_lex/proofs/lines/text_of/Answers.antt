use Rattle.std.proofs.Common.{◌≡◌, ℕ, ◌-◌, ◌≤◌, List, length, take, drop, min, ap, ◌∙◌, arith}
use Rattle.std.proofs.lemmas.List.{take_min, drop_min, take_all, length-drop}
use Rattle.cob_lex.specs.Lines.{text_of}
use Rattle.cob_lex.proofs.lines.text_of.Goals as goal

cut : (line : List ℕ) (m n : ℕ) → m ≡ min 72 (length line) → n ≡ min 7 (length (take m line)) → take (length (take m line) - n) (drop n (take m line)) ≡ text_of line
cut line m n is_m is_n =
    let whole : take m line ≡ take 72 line = ap (λ k. take k line) is_m ∙ take_min 72 line in
    let rest : drop n (take m line) ≡ drop 7 (take m line) = ap (λ k. drop k (take m line)) is_n ∙ drop_min 7 (take m line) in
    let short : length (drop n (take m line)) ≤ length (take m line) - n = omega (arith, length-drop n (take m line)) in
    take_all (length (take m line) - n) (drop n (take m line)) short ∙ rest ∙ ap (drop 7) whole

pub returns-clause-text : goal.returns-clause-text
returns-clause-text c = cut c.args.line.now c.min.result c.min-2.result c.min.ensures c.min-2.ensures
