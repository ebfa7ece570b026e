-- How many bytes a leaf has at most after a command that leaves no body in extents.
use Rattle.std.specs.Prelude.{◌≡◌, ℕ, ◌+◌, ◌-◌, ◌*◌, ◌^◌, ◌<◌, ◌≤◌, List, [], ◌∷◌, ◌++◌, length, Bool, true, false}
use Rattle.std.specs.Prelude.{◌==◌, nat_lt, Option, Some, None, if◌then◌else◌}
use Rattle.std.proofs.Common.{arith, inl, inr, refl, sym, ap, subst, ◌∙◌}
use Rattle.std.proofs.lemmas.Bool.{ltb-true}
use Rattle.r4_base.specs.Key.{rank}
use Rattle.r4_base.specs.Tree.{Node}
use Rattle.r4_base.specs.Value.{Value}
use Rattle.r4_base.specs.Volume.{byte_rank}
use Rattle.r4_base.specs.declared.items.Target.{Target}
use Rattle.r4_leaf_edits.specs.r4_cell.Seen.{CellSeen, node_of}
use Rattle.r4_content.specs.Bodies.{larger, truncated, written}
use Rattle.r4_content.specs.Edited.{Edits, Pairs, and_also}
use Rattle.r4_content.specs.Fields.{HasBytePaths}
use Rattle.r4_content.specs.Listed.{list_cut, list_edited, list_put, list_zero}
use Rattle.r4_content.specs.Objects.{Object, byte_pairs, set_body}
use Rattle.r4_content.specs.Seen.{Rises}
use Rattle.r4_content.specs.declared.command.Command.{Command}
use Rattle.r4_content.proofs.Ranks.{byte_after}
use Rattle.r4_leaf_edits.specs.r4_leaf.Leaves.{MayStand}
use Rattle.r4_leaf_edits.specs.r4_leaf.Units.{leaf_bytes}
use Rattle.r4_leaf_edits.specs.r4_reach.Needs.{leaf_edits, units_after}
use Rattle.r4_leaf_edits.specs.r4_reach.Touched.{Body, body_on, edits_on, first_byte, is_spread}
use Rattle.r4_suited.specs.Suited.{AreLawfulSeen, end_of_bytes}
use Rattle.r4_suited.proofs.Cells.{leaf_fits}
use Rattle.r4_suited.proofs.Few.{AreFew, IsHere}
use Rattle.r4_suited.proofs.Left.{made_left, without_body}
use Rattle.r4_suited.proofs.Runs.{gap_on, size_on, sized_by}
use Rattle.r4_suited.proofs.Suits.{body_after, fits_end, grown_body, size_few, within_larger, written_body}
use Rattle.r4_suited.proofs.Walked.{AreMade, edits_made}
use Rattle.r4_suited.proofs.Weights.{Grows, cuts_grow, grows_both, grows_none, rise_of, run_grows, values_grow}
use Rattle.r4_suited.proofs.Weights.{window_costs, zeros_grow}

-- ---- few edits

few_grow : (n m : ℕ) (e : Edits) (us : Pairs) → Rises us → AreFew n m e → Grows (40 * m + 386 * n) us (list_edited e us)
few_grow n m e us r h =
    let cuts = cuts_grow e.cuts us r in
    let values = values_grow e.puts (list_cut e.cuts us) cuts.rises h.values in
    let p = h.puts in
    let q = h.cuts in
    subst (λ rs. Grows (40 * m + 386 * n) us (list_put e.puts (list_zero rs (list_cut e.cuts us)))) (sym h.zeros)
    (grows_both (40 * length e.cuts) (386 * length e.puts) (40 * m + 386 * n) us (list_cut e.cuts us)
    (list_put e.puts (list_cut e.cuts us)) (omega (arith, p, q)) cuts values)

-- ---- bytes

pub put_append : (ps qs us : Pairs) → list_put (ps ++ qs) us ≡ list_put qs (list_put ps us)
put_append [] qs us = refl
put_append (p ∷ ps) qs us = put_append ps qs _

size_grows : (s : Pairs) (o : Object) (n m : ℕ) (b : Bool) (us vs : Pairs) → IsHere s o → Grows m us vs
    → Grows (m + 386) us (list_put (size_on o n b).puts vs)
size_grows s o n m b us vs h g =
    let few = size_few s o n b h in
    let one = few.puts in
    grows_both m (386 * length (size_on o n b).puts) (m + 386) us vs (list_put (size_on o n b).puts vs)
    (omega (arith, one)) g (values_grow (size_on o n b).puts vs g.rises few.values)

pub gap_long : (o : Target) (from to : ℕ) → byte_rank o to - byte_rank o from ≤ to
gap_long o from to =
    let a : byte_rank o (0 + from) ≡ byte_rank o 0 + from = byte_after o 0 from in
    let b : byte_rank o (0 + to) ≡ byte_rank o 0 + to = byte_after o 0 to in
    let c : byte_rank o (0 + from) ≡ byte_rank o from = ap (byte_rank o) (omega arith) in
    let d : byte_rank o (0 + to) ≡ byte_rank o to = ap (byte_rank o) (omega arith) in
    omega (arith, a, b, c, d)

gap_grows : (o : Object) (to : ℕ) (b : Bool) (us : Pairs) → Rises us
    → Grows (79 + to) us (list_zero (gap_on o to b).zeros us)
gap_grows o to true us r =
    let long = gap_long o.target o.attr.size to in
    let g = zeros_grow (byte_rank o.target o.attr.size) (byte_rank o.target to) us r in
    grows_both (79 + (byte_rank o.target to - byte_rank o.target o.attr.size)) 0 (79 + to) us _ _
    (omega (arith, long)) g (grows_none _ g.rises)
gap_grows o to false us r = grows_both 0 0 (79 + to) us us us (omega arith) (grows_none us r) (grows_none us r)

written_parts : (o : Object) (from n : ℕ) (xs : List ℕ) (b c : Bool) (us : Pairs)
    → list_edited (and_also (gap_on o from b) (and_also (set_body o from xs) (size_on o n c))) us
    ≡ list_put (size_on o n c).puts (list_put (byte_pairs (byte_rank o.target from) xs)
    (list_zero (gap_on o from b).zeros us))
written_parts o from n xs true true us = put_append (byte_pairs (byte_rank o.target from) xs) [] _
written_parts o from n xs true false us = put_append (byte_pairs (byte_rank o.target from) xs)
    (size_on o n false).puts _
written_parts o from n xs false true us = put_append (byte_pairs (byte_rank o.target from) xs) [] _
written_parts o from n xs false false us = put_append (byte_pairs (byte_rank o.target from) xs)
    (size_on o n false).puts _

written_grow : (s : Pairs) (o : Object) (from : ℕ) (xs : List ℕ) (us : Pairs) → IsHere s o → Rises us
    → from + length xs ≤ 16384 → Grows 20000 us (list_edited (written o from xs) us)
written_grow s o from xs us h r fits =
    let n = larger o.attr.size (from + length xs) in
    let b = nat_lt o.attr.size from in
    let c = o.attr.size == n in
    let gap = gap_grows o from b us r in
    let run = run_grows (byte_rank o.target from) xs (list_zero (gap_on o from b).zeros us) gap.rises in
    let both = grows_both (79 + from) (79 + length xs) (158 + (from + length xs)) us _ _ (omega arith) gap run in
    let all = size_grows s o n (158 + (from + length xs)) c us _ h both in
    subst (λ (vs : Pairs). Grows 20000 us vs) (sym (written_parts o from n xs b c us))
    (grows_both (158 + (from + length xs) + 386) 0 20000 us _ _ (omega (arith, fits)) all (grows_none _ all.rises))

-- ---- a size

sized_grow : (s : Pairs) (o : Object) (n : ℕ) (shrinks grows same : Bool) (us : Pairs) → IsHere s o → Rises us
    → (shrinks ≡ false → grows ≡ true → n ≤ 16384) → Grows 20000 us (list_edited (sized_by o n shrinks grows same) us)
sized_grow s o n true grows same us h r fits =
    let cut = cuts_grow ((byte_rank o.target n, byte_rank o.target o.attr.size) ∷ []) us r in
    by_size same (grows_both 40 0 40 us _ _ (omega arith) cut (grows_none _ cut.rises))
  where
    by_size : (c : Bool) → Grows 40 us (list_cut ((byte_rank o.target n, byte_rank o.target o.attr.size) ∷ []) us)
        → Grows 20000 us (list_edited (sized_by o n true grows c) us)
    by_size true g = grows_both 40 0 20000 us _ _ (omega arith) g (grows_none _ g.rises)
    by_size false g = let all = size_grows s o n 40 false us _ h g in grows_both 426 0 20000 us _ _ (omega arith) all
        (grows_none _ all.rises)
sized_grow s o n false false same us h r fits = by_size same
  where
    by_size : (c : Bool) → Grows 20000 us (list_edited (sized_by o n false false c) us)
    by_size true = grows_both 0 0 20000 us us us (omega arith) (grows_none us r) (grows_none us r)
    by_size false = let all = size_grows s o n 0 false us us h (grows_none us r) in grows_both 386 0 20000 us _ _
        (omega arith) all (grows_none _ all.rises)
sized_grow s o n false true same us h r fits = by_size same
  where
    gap : Grows (79 + n) us (list_zero (gap_on o n true).zeros us)
    gap = gap_grows o n true us r

    by_size : (c : Bool) → Grows 20000 us (list_edited (sized_by o n false true c) us)
    by_size true = let small = fits refl refl in grows_both (79 + n) 0 20000 us _ _ (omega (arith, small)) gap
        (grows_none _ gap.rises)
    by_size false =
        let small = fits refl refl in
        let all = size_grows s o n (79 + n) false us _ h gap in
        grows_both (79 + n + 386) 0 20000 us _ _ (omega (arith, small)) all (grows_none _ all.rises)

-- ---- all of them

made_grow : (s : Pairs) (in_extents : Bool) (e : Edits) (us : Pairs) → Rises s → Rises us → AreMade s e
    → end_of_bytes (body_after e s in_extents) ≡ 16384 → Grows 20000 us (list_edited e us)
made_grow s in_extents e us rs r (inl few) end = let g = few_grow 4 3 e us r few in grows_both
    (40 * 3 + 386 * 4) 0 20000 us _ _ (omega arith) g (grows_none _ g.rises)
made_grow s in_extents e us rs r (inr (inl w)) end =
    let o = w.file in
    let (key, size) = written_body s o w.from w.bytes rs w.here w.some w.fits in
    let le = within_larger o.attr.size (w.from + length w.bytes) in
    let most = w.fits in
    let fits = fits_end (written o w.from w.bytes) s in_extents o w.from (w.from + length w.bytes) w.here
    (omega (arith, most)) key (omega (arith, size, le)) (omega (arith, most)) in
    let same : end_of_bytes (body_after (written o w.from w.bytes) s in_extents)
    ≡ 16384 = ap (λ (x : Edits). end_of_bytes (body_after x s in_extents)) (sym w.is) ∙ end in
    subst (λ (x : Edits). Grows 20000 us (list_edited x us)) (sym w.is)
    (written_grow s o w.from w.bytes us w.here r (omega (arith, fits, same)))
made_grow s in_extents e us rs r (inr (inr w)) end =
    let o = w.file in
    let n = w.size in
    subst (λ (x : Edits). Grows 20000 us (list_edited x us)) (sym w.is)
    (sized_grow s o n (nat_lt n o.attr.size) (nat_lt o.attr.size n) (o.attr.size == n) us w.here r (λ shrinks grows.
    let lt = ltb-true o.attr.size n grows in
    let g = grown_body s o n rs w.here w.fits lt in
    let most = w.fits in
    let size = g.2 in
    let fits = fits_end (truncated o n) s in_extents o o.attr.size n w.here (omega (arith, lt, most)) g.1
    (omega (arith, size)) (omega (arith, most)) in
    let same : end_of_bytes (body_after (truncated o n) s in_extents)
    ≡ 16384 = ap (λ (x : Edits). end_of_bytes (body_after x s in_extents)) (sym w.is) ∙ end in
    omega (arith, fits, same)))

-- where the body goes to extents, few edits are left in leaves
leaves_grow : (b : Option Body) (s : Pairs) (in_extents : Bool) (e : Edits) (us : Pairs) → Rises s → Rises us
    → AreMade s e → body_after e s in_extents ≡ b → Grows 20000 us (list_edited (leaf_edits b e) us)
leaves_grow None s in_extents e us rs r made is = made_grow s in_extents e us rs r made (ap end_of_bytes is)
leaves_grow (Some b) s in_extents e us rs r made is = by_test (is_spread b) refl
  where
    by_test : (t : Bool) → is_spread b ≡ t
        → Grows 20000 us (list_edited (if t then without_body (first_byte b, first_byte b + 2 ^ 64) e else e) us)
    by_test true spread =
        let (n, m, few, cuts, left) = made_left s (first_byte b, first_byte b + 2 ^ 64) e made in
        let g = few_grow n m (without_body (first_byte b, first_byte b + 2 ^ 64) e) us r left in
        grows_both (40 * m + 386 * n) 0 20000 us _ _ (omega (arith, few, cuts)) g (grows_none _ g.rises)
    by_test false tails = made_grow s in_extents e us rs r made
        (ap end_of_bytes is ∙ ap (λ (t : Bool). let end : ℕ = if t then 2 ^ 64 else 16384 in end) tails)

pub leaf_small : (c : Command) (s : Pairs) (in_extents : Bool) (n : Node Value) → HasBytePaths c → Rises s
    → AreLawfulSeen c s → Rises n.units → leaf_bytes n.units ≤ 4068
    → leaf_bytes (units_after (body_on c s in_extents) (edits_on c s) n) < 58912
leaf_small c s in_extents n bytes rs lawful r small =
    let e = edits_on c s in
    let b = body_on c s in_extents in
    let g = leaves_grow b s in_extents e n.units rs r (edits_made c s lawful bytes) refl in
    let after = list_edited (leaf_edits b e) n.units in
    let (end, rise) = rise_of after g.rises in
    let window = window_costs n.lo n.hi 0 end None None after rise in
    let grown = g.bytes in
    omega (arith, window, grown, small)

-- so it is of a leaf that may stand
pub cell_small : (c : Command) (s : Pairs) (in_extents : Bool) (x : CellSeen) → HasBytePaths c → Rises s
    → AreLawfulSeen c s → x.level ≡ 1 → MayStand (rank x.lo) (rank x.hi) x.block → rank x.lo ≤ rank x.hi
    → leaf_bytes (units_after (body_on c s in_extents) (edits_on c s) (node_of x)) < 58912
cell_small c s in_extents x bytes rs lawful level stand le =
    let fits = leaf_fits x level stand le in
    leaf_small c s in_extents (node_of x) bytes rs lawful fits.rises fits.few
