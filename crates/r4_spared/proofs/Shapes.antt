-- What the edits of a command are charged for, where no body stands in extents afterwards.
use Rattle.std.specs.Prelude.{◌≡◌, ℕ, ◌+◌, ◌≤◌, List, [], length, Bool, true, false}
use Rattle.std.specs.Prelude.{◌==◌, nat_lt}
use Rattle.std.proofs.Common.{arith, inl, inr, refl, sym, ap, subst, ◌∙◌}
use Rattle.std.proofs.lemmas.Bool.{ltb-true}
use Rattle.r4_base.specs.Volume.{byte_rank}
use Rattle.r4_content.specs.Bodies.{larger, truncated, written}
use Rattle.r4_content.specs.Edited.{Edits, Pairs, and_also}
use Rattle.r4_content.specs.Objects.{Object, set_body}
use Rattle.r4_content.specs.Seen.{Rises}
use Rattle.r4_suited.specs.Suited.{end_of_bytes}
use Rattle.r4_suited.proofs.Few.{AreFew, IsHere}
use Rattle.r4_suited.proofs.Runs.{gap_on, size_on, size_zeros, sized_by}
use Rattle.r4_suited.proofs.Small.{gap_long}
use Rattle.r4_suited.proofs.Suits.{body_after, fits_end, grown_body, size_few, within_larger, written_body}
use Rattle.r4_suited.proofs.Walked.{AreMade}
use Rattle.r4_spared.proofs.Charges.{AreCharged, widths}

few_charged : (e : Edits) → AreFew 4 3 e → AreCharged e
few_charged e h =
    let puts = h.puts in
    let cuts = h.cuts in
    let none = ap length h.zeros in
    let thin = ap widths h.zeros in
    record {
      first = 0;
      bytes = [];
      values = e.puts;
      puts = refl;
      lawful = h.values;
      zeros = omega (arith, none);
      few = omega (arith, puts, cuts, none, thin);
    }

written_charged : (s : Pairs) (o : Object) (from n : ℕ) (xs : List ℕ) (b c : Bool) → IsHere s o
    → from + length xs ≤ 16384
    → AreCharged (and_also (gap_on o from b) (and_also (set_body o from xs) (size_on o n c)))
written_charged s o from n xs true c here fits =
    let own = size_few s o n c here in
    let puts = own.puts in
    let cuts = own.cuts in
    let none = ap length (size_zeros o n c) in
    let thin = ap widths (size_zeros o n c) in
    let long = gap_long o.target o.attr.size from in
    record {
      first = byte_rank o.target from;
      bytes = xs;
      values = (size_on o n c).puts;
      puts = refl;
      lawful = own.values;
      zeros = omega (arith, none);
      few = omega (arith, puts, cuts, none, thin, long, fits);
    }
written_charged s o from n xs false c here fits =
    let own = size_few s o n c here in
    let puts = own.puts in
    let cuts = own.cuts in
    let none = ap length (size_zeros o n c) in
    let thin = ap widths (size_zeros o n c) in
    record {
      first = byte_rank o.target from;
      bytes = xs;
      values = (size_on o n c).puts;
      puts = refl;
      lawful = own.values;
      zeros = omega (arith, none);
      few = omega (arith, puts, cuts, none, thin, fits);
    }

sized_charged : (s : Pairs) (o : Object) (n : ℕ) (shrinks grows same : Bool) → IsHere s o
    → (shrinks ≡ false → grows ≡ true → n ≤ 16384) → AreCharged (sized_by o n shrinks grows same)
sized_charged s o n true grows c here fits =
    let own = size_few s o n c here in
    let puts = own.puts in
    let cuts = own.cuts in
    let none = ap length (size_zeros o n c) in
    let thin = ap widths (size_zeros o n c) in
    record {
      first = 0;
      bytes = [];
      values = (size_on o n c).puts;
      puts = refl;
      lawful = own.values;
      zeros = omega (arith, none);
      few = omega (arith, puts, cuts, none, thin);
    }
sized_charged s o n false false c here fits =
    let own = size_few s o n c here in
    let puts = own.puts in
    let cuts = own.cuts in
    let none = ap length (size_zeros o n c) in
    let thin = ap widths (size_zeros o n c) in
    record {
      first = 0;
      bytes = [];
      values = (size_on o n c).puts;
      puts = refl;
      lawful = own.values;
      zeros = omega (arith, none);
      few = omega (arith, puts, cuts, none, thin);
    }
sized_charged s o n false true c here fits =
    let own = size_few s o n c here in
    let puts = own.puts in
    let cuts = own.cuts in
    let none = ap length (size_zeros o n c) in
    let thin = ap widths (size_zeros o n c) in
    let long = gap_long o.target o.attr.size n in
    let most = fits refl refl in
    record {
      first = 0;
      bytes = [];
      values = (size_on o n c).puts;
      puts = refl;
      lawful = own.values;
      zeros = omega (arith, none);
      few = omega (arith, puts, cuts, none, thin, long, most);
    }

pub made_charged : (s : Pairs) (in_extents : Bool) (e : Edits) → Rises s → AreMade s e
    → end_of_bytes (body_after e s in_extents) ≡ 16384 → AreCharged e
made_charged s in_extents e rs (inl few) end = few_charged e few
made_charged s in_extents e rs (inr (inl w)) end =
    let o = w.file in
    let (key, size) = written_body s o w.from w.bytes rs w.here w.some w.fits in
    let le = within_larger o.attr.size (w.from + length w.bytes) in
    let most = w.fits in
    let fits = fits_end (written o w.from w.bytes) s in_extents o w.from (w.from + length w.bytes) w.here
    (omega (arith, most)) key (omega (arith, size, le)) (omega (arith, most)) in
    let same : end_of_bytes (body_after (written o w.from w.bytes) s in_extents)
    ≡ 16384 = ap (λ (x : Edits). end_of_bytes (body_after x s in_extents)) (sym w.is) ∙ end in
    let n = larger o.attr.size (w.from + length w.bytes) in
    subst (λ (x : Edits). AreCharged x) (sym w.is)
    (written_charged s o w.from n w.bytes (nat_lt o.attr.size w.from) (o.attr.size == n) w.here
    (omega (arith, fits, same)))
made_charged s in_extents e rs (inr (inr w)) end =
    let o = w.file in
    let n = w.size in
    subst (λ (x : Edits). AreCharged x) (sym w.is)
    (sized_charged s o n (nat_lt n o.attr.size) (nat_lt o.attr.size n) (o.attr.size == n) w.here (λ shrinks grows.
    let lt = ltb-true o.attr.size n grows in
    let g = grown_body s o n rs w.here w.fits lt in
    let most = w.fits in
    let size = g.2 in
    let fits = fits_end (truncated o n) s in_extents o o.attr.size n w.here (omega (arith, lt, most)) g.1
    (omega (arith, size)) (omega (arith, most)) in
    let same : end_of_bytes (body_after (truncated o n) s in_extents)
    ≡ 16384 = ap (λ (x : Edits). end_of_bytes (body_after x s in_extents)) (sym w.is) ∙ end in
    omega (arith, fits, same)))
