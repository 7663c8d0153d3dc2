use Rattle.std.proofs.Common.{◌++◌, [], ◌∷◌, refl}
use Rattle.std.specs.Prelude.{decimal}
use Rattle.com_text.specs.Text.{IsText}
use Rattle.com_net.proofs.PathTexts.{IsText-decimal, IsText-append}
use Rattle.com_net.proofs.paths.element.Goals as goal

pub of_vec-requires : goal.of_vec-requires
of_vec-requires c =
    let path = c.args.path.now in
    let text : IsText ((path ++ 46 ∷ []) ++ decimal c.args.number) =
    IsText-append (path ++ 46 ∷ []) (decimal c.args.number) (IsText-append path (46 ∷ []) c.requires.path refl) (IsText-decimal c.args.number c.ranges.number.fits) in
    rw (c.into_vec.ensures, c.in_ok-put_number.ensures.ok, c.in_ok-extend_from_slice-2.ensures.ok, c.in_ok-extend_from_slice.ensures.ok, c.new-bytes.ensures) text
