use Rattle.std.proofs.Common.{◌≡◌, ◌-◌, length, take, drop, ap, subst, ◌∙◌, arith}
use Rattle.std.proofs.lemmas.Result.{IfOk-weaker}
use Rattle.r4_content.specs.Held.{edits_of}
use Rattle.r4_extent_build.specs.r4_graft.Splices.{place}
use Rattle.r4_extent_build.proofs.r4_graft.Placed.{place_within}
use Rattle.r4_build.specs.r4_path.TwigPieces.{ArePiecesOf, twig_pieces}
use Rattle.r4_build.specs.r4_reach.Touched.{first_byte}
use Rattle.r4_extent_turn.proofs.ToldRuns.{told_are}
use Rattle.r4_extent_turn.proofs.turning.told_extent.Goals as goal

pub overflow_sub-len : goal.overflow_sub-len
overflow_sub-len c =
    let b = c.args.body.now in
    let e = edits_of c.args.edits.now in
    let twig = c.args.twig.now in
    let (first, g) = c.requires.turning in
    let old = c.in_ok-old.ensures.is in
    let h = told_are b first g e twig (subst (ArePiecesOf twig) old c.in_ok-old.ensures) c.requires.within c.requires.no_holes c.in_ok-all.all.items c.in_ok-all.ensures.pieces in
    let n : length c.in_ok-old.old.items ≡ length (twig_pieces twig) = ap length old in
    let l : c.len.result ≡ length c.in_ok-all.all.items = omega (arith, c.len.ensures, c.in_ok-all.all.ok) in
    let m : c.len-2.result ≡ length c.in_ok-old.old.items = omega (arith, c.len-2.ensures, c.in_ok-old.old.ok) in
    let long = h.0 in
    omega (arith, l, m, n, long)

pub some_of-requires : goal.some_of-requires
some_of-requires c =
    let b = c.args.body.now in
    let e = edits_of c.args.edits.now in
    let twig = c.args.twig.now in
    let (first, g) = c.requires.turning in
    let old = c.in_ok-old.ensures.is in
    let h = told_are b first g e twig (subst (ArePiecesOf twig) old c.in_ok-old.ensures) c.requires.within c.requires.no_holes c.in_ok-all.all.items c.in_ok-all.ensures.pieces in
    let n : length c.in_ok-old.old.items ≡ length (twig_pieces twig) = ap length old in
    let l : c.len.result ≡ length c.in_ok-all.all.items = omega (arith, c.len.ensures, c.in_ok-all.all.ok) in
    let m : c.len-2.result ≡ length c.in_ok-old.old.items = omega (arith, c.len-2.ensures, c.in_ok-old.old.ok) in
    let at : c.place_of-at.result ≡ place (first_byte b) (twig_pieces twig) = c.place_of-at.ensures ∙ (λ i. place (c.first_byte.ensures.at i) ((c.as_slice.ensures.value ∙ old) i)) in
    let within = place_within (first_byte b) (twig_pieces twig) in
    let seen = ap length c.as_slice-2.ensures.value in
    let long = h.0 in
    omega (arith, l, m, n, long, at, within, seen)

pub returns : goal.returns
returns c =
    let b = c.args.body.now in
    let e = edits_of c.args.edits.now in
    let twig = c.args.twig.now in
    let (first, g) = c.requires.turning in
    let old = c.in_ok-old.ensures.is in
    let h = told_are b first g e twig (subst (ArePiecesOf twig) old c.in_ok-old.ensures) c.requires.within c.requires.no_holes c.in_ok-all.all.items c.in_ok-all.ensures.pieces in
    let n : length c.in_ok-old.old.items ≡ length (twig_pieces twig) = ap length old in
    let l : c.len.result ≡ length c.in_ok-all.all.items = omega (arith, c.len.ensures, c.in_ok-all.all.ok) in
    let m : c.len-2.result ≡ length c.in_ok-old.old.items = omega (arith, c.len-2.ensures, c.in_ok-old.old.ok) in
    let at : c.place_of-at.result ≡ place (first_byte b) (twig_pieces twig) = c.place_of-at.ensures ∙ (λ i. place (c.first_byte.ensures.at i) ((c.as_slice.ensures.value ∙ old) i)) in
    let many : c.len.result - c.len-2.result ≡ length c.in_ok-all.all.items - length (twig_pieces twig) = omega (arith, l, m, n) in
    IfOk-weaker c.some_of.result _ _ (λ v is. is ∙ ((λ i. take (many i) (drop (at i) (c.as_slice-2.ensures.value i))) ∙ h.1)) c.some_of.ensures
