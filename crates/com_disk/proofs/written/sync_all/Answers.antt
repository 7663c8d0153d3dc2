use Rattle.std.proofs.Common.{◌≡◌, ◌+◌, ◌<◌, ◌++◌, ◌∷◌, [], ℕ, List, set, get_or, map, take, drop, length, ap, sym, ◌∙◌, arith, append_assoc, length-take}
use Rattle.std.proofs.lemmas.List.{drop_more, map_more, get_or_at, set_at, length-map}
use Rattle.com_disk.specs.inner.Still.{synced_by}
use Rattle.com_disk.specs.declared.written.Written.{Written}
use Rattle.com_disk.proofs.written.sync_all.Goals as goal

-- one item more is mapped where it stands
map_step : (f : Written → Written) (xs ys : List Written) (i : ℕ) (x : Written) → i < length xs → ys ≡ map f (take i xs) ++ drop i xs → x ≡ get_or ys i x
    → set ys i (f x) ≡ map f (take (i + 1) xs) ++ drop (i + 1) xs
map_step f xs ys i x lt is read =
    let front = map f (take i xs) in
    let next = get_or xs i x in
    let rest = drop (i + 1) xs in
    let size : length front ≡ i = omega (arith, length-map (take i xs) f, length-take i xs) in
    let split : ys ≡ front ++ next ∷ rest = is ∙ ap (λ (l : List Written). front ++ l) (drop_more xs i x lt) in
    let same : x ≡ next = read ∙ ap (λ (l : List Written). get_or l i x) split ∙ get_or_at front next rest x i size in
    ap (λ (l : List Written). set l i (f x)) split
    ∙ set_at front next rest (f x) i size
    ∙ ap (λ (w : Written). front ++ f w ∷ rest) same
    ∙ sym (append_assoc front (f next ∷ []) rest)
    ∙ ap (λ (l : List Written). l ++ rest) (sym (map_more f xs i x lt))

pub loop-write-preserved : goal.loop-write-preserved
loop-write-preserved c =
    let writes = c.loop-write.writes in
    let i = c.loop-write.write-index in
    let was = get_or writes i c.write-item.result in
    ap (λ (w : Written). set writes i w) c.sync_by.ensures
    ∙ map_step (synced_by c.args.sync) c.args.writes.now writes i was c.loop-write-test.true c.loop-write.invariant (ap (λ (w : Written). get_or writes i w) c.write-item.is)
