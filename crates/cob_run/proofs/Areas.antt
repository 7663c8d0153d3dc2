-- Areas that are written, one at a time.
use Rattle.std.proofs.Common.{◌≡◌, ℕ, ◌+◌, ◌<◌, ◌≤◌, List, [], map, length, get_or, Option, Some, None, refl, sym, ap, ◌∙◌, subst, arith}
use Rattle.std.specs.Prelude.{slice_set}
use Rattle.std.proofs.Math.ListN.{get_or-map}
use Rattle.std.proofs.lemmas.List.{map-set, set-get_or, get_or_default, length-map}
use Rattle.com_cd.specs.Parts.{with_part}
use Rattle.cob_data.specs.declared.tree.ItemPlace.{ItemPlace}
use Rattle.cob_meaning.specs.Storage.{Storage, area_in, with_prefix}
use Rattle.cob_run.specs.Within.{sizes}

-- an area that was read, with any default
pub area_read : (storage : Storage) (a : ℕ) (d : List ℕ) → a < length (sizes storage) → get_or storage a d ≡ area_in storage a
area_read storage a d lt = get_or_default storage a d [] (omega (arith, length-map storage length))

-- areas of other characters, each as long
pub same_sizes : (storage : Storage) (a : ℕ) (d after : List ℕ) → a < length (sizes storage) → length after ≡ length (get_or storage a d) → sizes (slice_set storage a after) ≡ sizes storage
same_sizes storage a d after lt long =
    map-set length storage a after
    ∙ ap (λ n. slice_set (sizes storage) a n) (long ∙ ap length (area_read storage a d lt) ∙ sym (get_or-map length storage a []))
    ∙ set-get_or (sizes storage) a 0

-- an item that was written
pub item_written : (storage : Storage) (item : ItemPlace) (d after characters : List ℕ) → item.area < length (sizes storage)
    → after ≡ with_part item.start (length characters) (get_or storage item.area d) characters → slice_set storage item.area after ≡ with_prefix item characters storage
item_written storage item d after characters lt h =
    ap (λ l. slice_set storage item.area l) (h ∙ ap (λ l. with_part item.start (length characters) l characters) (area_read storage item.area d lt))
