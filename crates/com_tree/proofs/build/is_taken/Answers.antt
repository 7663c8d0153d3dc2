use Rattle.std.proofs.Common.{◌≡◌, ◌-◌, ◌<◌, ◌++◌, [], ◌∷◌, false, not, length, get_or, refl, sym, ap, ◌∙◌, arith}
use Rattle.std.specs.List.{list_any}
use Rattle.std.specs.Str.{bytes_eq}
use Rattle.std.proofs.lemmas.List.{length-map, map-append, map-set, get_or-map}
use Rattle.com_tree.specs.Siblings.{taken_names, names_at}
use Rattle.com_tree.proofs.LevelNames.{shown, any_shown, twice_not, gone_to, one_more_name}
use Rattle.com_tree.proofs.build.is_taken.Goals as goal

-- the names at the level of the row
own_names : (c : goal.In_ok-is_new) → shown c.index_mut.result.now.keys ≡ names_at c.args.row.now.depth (taken_names c.args.levels.now.items)
own_names c =
    let taken = taken_names c.args.levels.now.items in
    let depth = c.args.row.now.depth in
    let mid = c.go_to_level.new.levels.items in
    let many : length taken ≡ length c.args.levels.now.items = length-map c.args.levels.now.items _ in
    let within : depth - 1 < length mid = omega (arith, c.in_ok-go_to_level.ensures.level, c.requires.top) in
    ap (λ set. shown set.keys) c.index_mut.ensures.value
    ∙ (sym (get_or-map (λ set. shown set.keys) mid (depth - 1) c.index_mut.result.now [] within)
    ∙ (ap (λ names. get_or names (depth - 1) []) c.in_ok-go_to_level.ensures.names
    ∙ gone_to taken depth [] c.requires.top (omega (arith, many, c.requires.next))))

pub returns-clause-taken : goal.returns-clause-taken
returns-clause-taken c =
    let name = c.args.row.now.name in
    ap not c.in_ok-is_new.ensures.added ∙ (twice_not _ ∙ (rw c.as_bytes-name.ensures.characters (any_shown name c.index_mut.result.now.keys) ∙ ap (list_any (bytes_eq name)) (own_names c)))

pub returns-clause-levels : goal.returns-clause-levels
returns-clause-levels c = λ fresh.
    let taken = taken_names c.args.levels.now.items in
    let depth = c.args.row.now.depth in
    let mid = c.go_to_level.new.levels.items in
    let keys = c.index_mut.result.now.keys in
    let many : length taken ≡ length c.args.levels.now.items = length-map c.args.levels.now.items _ in
    let none : list_any (λ k. bytes_eq c.as_bytes-name.result.now k.now) keys ≡ false = sym (twice_not _) ∙ (ap not (sym c.in_ok-is_new.ensures.added) ∙ fresh) in
    let added : c.insert.new.self.keys ≡ keys ++ c.as_bytes-name.result ∷ [] = rw none at c.in_ok-is_new.ensures.keys in
    let own : shown c.insert.new.self.keys ≡ names_at depth taken ++ c.args.row.now.name ∷ [] =
    ap shown added ∙ (map-append _ keys (c.as_bytes-name.result ∷ []) ∙ rw (own_names c, c.as_bytes-name.ensures.characters) refl) in
    map-set (λ set. shown set.keys) mid (depth - 1) c.insert.new.self
    ∙ (rw (own, c.in_ok-go_to_level.ensures.names) (one_more_name taken depth c.args.row.now.name c.requires.top (omega (arith, many, c.requires.next))))
