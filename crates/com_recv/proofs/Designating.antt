-- The node that an area designates, by its path.
use Rattle.std.proofs.Common.{◌≡◌, ℕ, ◌+◌, ◌-◌, ◌≤◌, Bool, true, false, List, [], ◌∷◌, length, take, Some, None, refl, sym, ap, subst, ◌∙◌, arith, inl, inr, length-append}
use Rattle.std.specs.Prelude.{◌↔◌, Option, option_map, IsTrue}
use Rattle.std.specs.Cmp.Lexicographic.{pointwise}
use Rattle.std.specs.List.{All, AllByRecursion, list_all, position, position_from}
use Rattle.std.specs.Str.{bytes_eq}
use Rattle.std.proofs.lemmas.Bool.{cases_Bool, false≢true}
use Rattle.std.proofs.lemmas.Slice.Eq.{bytes_eq-Decides, slice_eq-Decides}
use Rattle.std.specs.Bool.{Decides}
use Rattle.std.proofs.lemmas.Iterator.Adapters.{position_from-zero}
use Rattle.std.proofs.lemmas.List.{length-take-le}
use Rattle.std.proofs.lemmas.List.Elements.{All-push, All-take}
use Rattle.com_text.specs.Name.{IsName, is_name}
use Rattle.com_cd.specs.Designation.{path_fields, Designates}
use Rattle.com_cd.proofs.Paths.{only_path}
use Rattle.std.proofs.lemmas.Option.{none-some}
use Rattle.com_tree.specs.declared.tree.TreeRow.{TreeRow}
use Rattle.com_tree.specs.declared.tree.Node.{Node}
use Rattle.com_tree.specs.Written.{IsWritten}
use Rattle.com_tree.specs.Places.{path_behind, paths_behind, paths, node_with}
use Rattle.com_tree.proofs.Building.{both}
use Rattle.com_tree.proofs.Walks.{IsRest, IsNext, step_of, all_left, first_at_top}
use Rattle.com_recv.specs.Incoming.{designated}
use Rattle.com_recv.proofs.Members.{Among}

-- a path of one to four names
abbrev IsPath : List (List ℕ) → Type 0
IsPath path = (1 ≤ length path) × (length path ≤ 4) × All IsName path

both_names : (row : TreeRow) (rows : List TreeRow) → IsTrue (list_all (λ r. is_name r.name) (row ∷ rows)) → IsName row.name × IsTrue (list_all (λ r. is_name r.name) rows)
both_names row rows named = both (is_name row.name) (list_all (λ r. is_name r.name) rows) named

valid_behind : (path : List (List ℕ)) (rows : List TreeRow) → All IsName path → IsRest rows → IsNext (length path) rows → IsTrue (list_all (λ row. is_name row.name) rows) → AllByRecursion IsPath (paths_behind path rows)
valid_behind path [] names rest next named = tt
valid_behind path (row ∷ rows) names rest next named =
    let step = step_of row rows rest in
    let split = both_names row rows named in
    let long : length (path_behind path row) ≡ row.depth =
    length-append (take (row.depth - 1) path) (row.name ∷ []) ∙ omega (arith, length-take-le (row.depth - 1) path (omega (arith, next)), step.least) in
    let valid : All IsName (path_behind path row) = All-push IsName (take (row.depth - 1) path) row.name (All-take IsName (row.depth - 1) path names) split.0 in
    let here : IsPath (path_behind path row) = (omega (arith, long, step.least), omega (arith, long, step.most), valid) in
    (here, valid_behind (path_behind path row) rows valid step.rest (rw long step.next) split.1)

-- tests that agree find the same place
same_from : {X : Type 0} (p q : X → Bool) → (at : ℕ) (xs : List X) → AllByRecursion (λ x. p x ≡ q x) xs → position_from p at xs ≡ position_from q at xs
same_from p q at [] agree = refl
same_from p q at (x ∷ xs) agree = rw (agree.0, same_from p q (at + 1) xs agree.1) refl

same_place : {X : Type 0} (p q : X → Bool) → (xs : List X) → AllByRecursion (λ x. p x ≡ q x) xs → position p xs ≡ position q xs
same_place p q xs agree = position_from-zero p xs ∙ (same_from p q 0 xs agree ∙ sym (position_from-zero q xs))

no_names : All IsName []
no_names = λ k d within. absurd (omega (arith, within))

-- the paths of a tree are paths
valid_paths : (rows : List TreeRow) → IsWritten rows → AllByRecursion IsPath (paths rows)
valid_paths rows h = valid_behind [] rows no_names (all_left rows h) (first_at_top rows h.forest) h.names

same_names : (one other : List (List ℕ)) → Decides (pointwise bytes_eq one other) (one ≡ other)
same_names one other = slice_eq-Decides bytes_eq-Decides one other (pointwise bytes_eq one other) refl

-- a path has the fields of an area exactly where it is the path that the area designates
same_test : (area : List ℕ) (path other : List (List ℕ)) → Designates area path → IsPath other → bytes_eq (take 48 area) (path_fields other) ≡ pointwise bytes_eq other path
same_test area path other names valid = elim (cases_Bool (pointwise bytes_eq other path)) [
  | inl same ↦
      let is : other ≡ path = grind (arith, same_names other path, same) in
      let fields : take 48 area ≡ path_fields other = rw is names.fields in
      let equal : bytes_eq (take 48 area) (path_fields other) ≡ true = grind (arith, bytes_eq-Decides (take 48 area) (path_fields other), fields) in
      equal ∙ sym same
  | inr apart ↦ elim (cases_Bool (bytes_eq (take 48 area) (path_fields other))) [
    | inl equal ↦
        let fields : take 48 area ≡ path_fields other = grind (arith, bytes_eq-Decides (take 48 area) (path_fields other), equal) in
        let designates : Designates area other = record { some = valid.0; few = valid.1; names = valid.2; fields = fields } in
        let is : other ≡ path = only_path area other path designates names in
        let same : pointwise bytes_eq other path ≡ true = grind (arith, same_names other path, is) in
        absurd (false≢true (sym apart ∙ same))
    | inr unequal ↦ unequal ∙ sym apart
  ]
]

same_tests : (area : List ℕ) (path : List (List ℕ)) (others : List (List (List ℕ))) → Designates area path → AllByRecursion IsPath others
    → AllByRecursion (λ other. bytes_eq (take 48 area) (path_fields other) ≡ pointwise bytes_eq other path) others
same_tests area path [] names valid = tt
same_tests area path (other ∷ others) names valid = (same_test area path other names valid.0, same_tests area path others names valid.1)

-- the node with the path that an area designates
pub designated_path : (tree : List TreeRow) (area : List ℕ) (path : List (List ℕ)) → IsWritten tree → Designates area path → node_with tree path ≡ designated tree area
designated_path tree area path h names =
    ap (option_map (λ place. record { row = place }))
    (sym (same_place (λ other. bytes_eq (take 48 area) (path_fields other)) (λ other. pointwise bytes_eq other path) (paths tree) (same_tests area path (paths tree) names (valid_paths tree h))))

none_from : {X : Type 0} (p : X → Bool) → (at : ℕ) (xs : List X) → AllByRecursion (λ x. p x ≡ false) xs → position_from p at xs ≡ None
none_from p at [] fail = refl
none_from p at (x ∷ xs) fail = rw fail.0 (none_from p (at + 1) xs fail.1)

no_test : (area : List ℕ) (others : List (List (List ℕ))) → ((path : List (List ℕ)) → Designates area path → ⊥) → AllByRecursion IsPath others
    → AllByRecursion (λ other. bytes_eq (take 48 area) (path_fields other) ≡ false) others
no_test area [] none valid = tt
no_test area (other ∷ others) none valid =
    let here : bytes_eq (take 48 area) (path_fields other) ≡ false = elim (cases_Bool (bytes_eq (take 48 area) (path_fields other))) [
      | inl equal ↦
          let fields : take 48 area ≡ path_fields other = grind (arith, bytes_eq-Decides (take 48 area) (path_fields other), equal) in
          absurd (none other record { some = valid.0.0; few = valid.0.1; names = valid.0.2; fields = fields })
      | inr unequal ↦ unequal
    ] in
    (here, no_test area others none valid.1)

-- an area that designates no path designates no node
pub designated_none : (tree : List TreeRow) (area : List ℕ) → IsWritten tree → ((path : List (List ℕ)) → Designates area path → ⊥) → None ≡ designated tree area
designated_none tree area h none =
    let failing = no_test area (paths tree) none (valid_paths tree h) in
    let nowhere : position (λ other. bytes_eq (take 48 area) (path_fields other)) (paths tree) ≡ None =
    position_from-zero (λ other. bytes_eq (take 48 area) (path_fields other)) (paths tree) ∙ none_from (λ other. bytes_eq (take 48 area) (path_fields other)) 0 (paths tree) failing in
    rw nowhere refl

-- what stands at the place that is found, passes
passes_at : {X : Type 0} (p : X → Bool) → (at place : ℕ) (xs : List X) → position_from p at xs ≡ Some place → (x : X) × (p x ≡ true) × Among x xs
passes_at p at place [] found = absurd (none-some place found)
passes_at p at place (x ∷ xs) found = elim (cases_Bool (p x)) [
  | inl passes ↦ (x, passes, inl refl)
  | inr fails ↦ let later = passes_at p (at + 1) place xs (rw fails at found) in (later.0, later.1, inr later.2)
]

-- what holds of all holds of what stands among them
of_all : {X : Type 0} (P : X → Type 0) → (x : X) (xs : List X) → AllByRecursion P xs → Among x xs → P x
of_all P x [] all among = absurd among
of_all P x (y ∷ xs) all (inl e) = subst P (sym e) all.0
of_all P x (y ∷ xs) all (inr there) = of_all P x xs all.1 there

-- a node that is designated has a place
place_of : (o : Option ℕ) (node : Node) → option_map {U = Node} (λ place. record { row = place }) o ≡ Some node → (place : ℕ) × (o ≡ Some place)
place_of None node e = absurd (none-some node e)
place_of (Some place) node e = (place, refl)

-- an area that designates a node designates a path
path_designated : (tree : List TreeRow) (area : List ℕ) (node : Node) → IsWritten tree → designated tree area ≡ Some node → (path : List (List ℕ)) × Designates area path
path_designated tree area node written is =
    let test = λ (path : List (List ℕ)). bytes_eq (take 48 area) (path_fields path) in
    let place = place_of (position test (paths tree)) node is in
    let found = passes_at test 0 place.0 (paths tree) (sym (position_from-zero test (paths tree)) ∙ place.1) in
    let valid = of_all IsPath found.0 (paths tree) (valid_paths tree written) found.2 in
    let fields : take 48 area ≡ path_fields found.0 = grind (arith, bytes_eq-Decides (take 48 area) (path_fields found.0), found.1) in
    (found.0, record { some = valid.0; few = valid.1; names = valid.2; fields = fields })

-- an area designates a node exactly where it designates a path, and the node has this path
pub by_its_path : (tree : List TreeRow) (area : List ℕ) (node : Node) → IsWritten tree
    → (designated tree area ≡ Some node) ↔ ((path : List (List ℕ)) × Designates area path × (node_with tree path ≡ Some node))
by_its_path tree area node written = (
  λ is.
      let path = path_designated tree area node written is in
      (path.0, path.1, designated_path tree area path.0 written path.1 ∙ is),
  λ path. sym (designated_path tree area path.0 written path.1) ∙ path.2,
)
