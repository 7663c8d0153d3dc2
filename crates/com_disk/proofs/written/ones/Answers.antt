use Rattle.std.proofs.Common.{◌≡◌, ◌∙◌, ◌++◌, ◌∷◌, ℕ, List, [], get_or, take, map, sym, ap, rules}
use Rattle.std.proofs.lemmas.List.{take_more, map-append}
use Rattle.com_disk.proofs.written.ones.Goals as goal

pub loop-preserved : goal.loop-preserved
loop-preserved c =
    let bytes = c.args.bytes.now in
    let i = c.loop.index in
    let pushed : c.push.new.self.items ≡ c.loop.ones.items ++ 1 ∷ [] = search rules in
    pushed ∙ ap (λ (l : List ℕ). l ++ 1 ∷ []) c.loop.invariant ∙ sym (ap (λ (l : List ℕ). map (λ (_ : ℕ). 1) l) (take_more bytes i 0 c.loop-test.true) ∙ map-append (λ (_ : ℕ). 1) (take i bytes) (get_or bytes i 0 ∷ []))
