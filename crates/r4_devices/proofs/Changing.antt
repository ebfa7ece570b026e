-- What reading gives after calls.
use Rattle.std.proofs.Common.{◌≡◌, ◌≢◌, inl, inr, ⊎_elim, ℕ, ◌<◌, List, [], ◌∷◌, length, Bool, true, false, eqb, slice_set, refl, sym, ◌∙◌, ap, subst, arith, Result, Ok, Err}
use Rattle.std.proofs.lemmas.Bool.{cases_eq, cases_Bool, eq-eqb, ne_eqb}
use Rattle.std.proofs.lemmas.List.{length-set}
use Rattle.std.proofs.lemmas.Nat.Bits.{bit_at-zero}
use Rattle.r4_base.specs.Image.{Image, IsBlock, block_at, sector}
use Rattle.r4_outside.specs.Crash.{number_after}
use Rattle.r4_outside.specs.Device.{State, Goes, Reads, Writes, Rose}
use Rattle.r4_outside.specs.Mix.{is_marked, IsMix}
use Rattle.r4_outside.proofs.Images.{read_written, read_other}
use Rattle.r4_devices.specs.declared.torn.Held.{Held}
use Rattle.r4_devices.specs.Picks.{Parts, put_over, skipped, looked, goes_back, put_back, HasParts, Changes}

parts_on : (n : ℕ) (f g : Parts) (image : Image) → ((b s : ℕ) → s < 8 → f b s ≡ g b s) → HasParts n f image → HasParts n g image
parts_on n f g image same h = record { blocks = h.blocks; whole = h.whole; sectors = λ b s lb ls. h.sectors b s lb ls ∙ same b s ls }

pub changes_none : (d : State) → Changes (λ p. p) d d
changes_none d = record { each = λ p h. inr h }

pub changes_rose : (change : Parts → Parts) (old new : State) → Rose old.faults new.faults → Changes change old new
changes_rose change old new rose = record { each = λ p h. inl rose }

pub changes_as : (f g : Parts → Parts) (old new : State) → ((p : Parts) (b s : ℕ) → s < 8 → f p b s ≡ g p b s) → Changes f old new → Changes g old new
changes_as f g old new same c = record { each = λ p h. ⊎_elim inl (λ is. inr (parts_on old.blocks (f p) (g p) new.seen (same p) is)) (c.each p h) }

pub changes_both : (f g : Parts → Parts) (a b c : State) → Goes a b → Goes b c → Changes f a b → Changes g b c → Changes (λ p. g (f p)) a c
changes_both f g a b c ab bc x y = record {
  each = λ p h. ⊎_elim (λ rose. inl (omega (arith, rose, bc.faults)))
      (λ is. ⊎_elim (λ rose. inl (omega (arith, rose, ab.faults))) (λ done. inr (subst (λ (n : ℕ). HasParts n (g (f p)) c.seen) ab.blocks done))
      (y.each (f p) (subst (λ (n : ℕ). HasParts n (f p) b.seen) (sym ab.blocks) is)))
      (x.each p h);
}

-- A write of no sector.
put_none : (at : ℕ) (x : List ℕ) (p : Parts) (b s : ℕ) → put_over (is_marked 0) at x p b s ≡ p b s
put_none at x p b s =
    let zero_bit : is_marked 0 s ≡ false = ap (λ (n : ℕ). eqb n 1) (bit_at-zero s) in
    elim (cases_Bool (eqb b at)) [
      | inl is ↦ rw (is, zero_bit) refl
      | inr other ↦ rw other refl
    ]

pub torn_by_none : (at : ℕ) (x : List ℕ) (d : State) → Changes (put_over (is_marked 0) at x) d d
torn_by_none at x d = changes_as (λ p. p) (put_over (is_marked 0) at x) d d (λ p b s ls. sym (put_none at x p b s)) (changes_none d)

-- A block that is written over one that was read.
written : (n mask at : ℕ) (x got mixed : List ℕ) (image : Image) (p : Parts) → at < n → got ≡ block_at image at → IsMix mask x got mixed → IsBlock mixed → HasParts n p image → HasParts n (put_over (is_marked mask) at x p) (slice_set image at mixed)
written n mask at x got mixed image p below read mix whole h = record {
  blocks = length-set image at mixed ∙ h.blocks;
  whole = λ b lb. elim (cases_eq b at) [
    | inl is ↦ subst (λ (k : ℕ). IsBlock (block_at (slice_set image at mixed) k)) (sym is) (subst IsBlock (sym (read_written image at mixed inside)) whole)
    | inr other ↦ subst IsBlock (sym (read_other image at b mixed other)) (h.whole b lb)
  ];
  sectors = λ b s lb ls. elim (cases_eq b at) [
    | inl is ↦ subst (λ (k : ℕ). sector (block_at (slice_set image at mixed) k) s ≡ put_over (is_marked mask) at x p k s) (sym is) (here s ls)
    | inr other ↦ ap (λ (y : List ℕ). sector y s) (read_other image at b mixed other) ∙ h.sectors b s lb ls ∙ elsewhere b s other
  ];
}
  where
    inside : at < length image
    inside = omega (arith, below, h.blocks)

    elsewhere : (b s : ℕ) → b ≢ at → p b s ≡ put_over (is_marked mask) at x p b s
    elsewhere b s other = rw (ne_eqb b at other) refl

    here : (s : ℕ) → s < 8 → sector (block_at (slice_set image at mixed) at) s ≡ put_over (is_marked mask) at x p at s
    here s ls =
        let first = ap (λ (y : List ℕ). sector y s) (read_written image at mixed inside) ∙ mix.each s ls in
        let same : eqb at at ≡ true = eq-eqb at at refl in
        let was : sector got s ≡ p at s = ap (λ (y : List ℕ). sector y s) read ∙ h.sectors at s below ls in
        elim (cases_Bool (is_marked mask s)) [
          | inl marked ↦ first ∙ rw (marked, same) refl
          | inr other ↦ first ∙ rw (other, same) was
        ]

pub changes_write : {T E U F : Type 0} (mask at : ℕ) (x got mixed : List ℕ) (old mid new : State) (v : T) (r : Result U F) → at < old.blocks → Reads {E = E} at got old (Ok v) mid → IsMix mask x got mixed → IsBlock mixed → Writes at mixed mid r new
    → Changes (put_over (is_marked mask) at x) old new
changes_write {T} {E} {U} {F} mask at x got mixed old mid new v (Err e) below c mix whole w = changes_rose (put_over (is_marked mask) at x) old new (let rose = w.cause in omega (arith, rose, c.goes.faults))
changes_write {T} {E} {U} {F} mask at x got mixed old mid new v (Ok u) below c mix whole w = record {
  each = λ p h.
      let read : got ≡ block_at old.seen at = c.content (record { blocks = h.blocks; whole = h.whole }) in
      let is : new.seen ≡ slice_set old.seen at mixed = w.seen ∙ ap (λ (i : Image). slice_set i at mixed) c.seen in
      inr (subst (λ (i : Image). HasParts old.blocks (put_over (is_marked mask) at x p) i) (sym is) (written old.blocks mask at x got mixed old.seen p below read mix whole h));
}

changes_marks : (marks others : ℕ → Bool) (at : ℕ) (x : List ℕ) (old new : State) → ((s : ℕ) → s < 8 → marks s ≡ others s) → Changes (put_over marks at x) old new → Changes (put_over others at x) old new
changes_marks marks others at x old new same c = changes_as (put_over marks at x) (put_over others at x) old new (λ p b s ls. rw (same s ls) refl) c

-- What a loop over the blocks that are held back keeps.
pub record IsPutBack (at tear pick x : ℕ) (all rest : List Held) (old now : State) : Type 0 where
  pub change : Parts → Parts
  pub changes : Changes change old now
  pub same : (p : Parts) → put_back at tear x rest (change p) ≡ put_back at tear pick all p

pub none_back : (at tear pick : ℕ) (all : List Held) (d : State) → IsPutBack at tear pick pick all all d d
none_back at tear pick all d = record { change = λ p. p; changes = changes_none d; same = λ p. refl }

pub one_back : (at tear pick x y mask skip : ℕ) (all rest hs : List Held) (h : Held) (old now next : State) → rest ≡ h ∷ hs → skip ≡ skipped at tear h.at → y ≡ number_after x (looked skip 8) → ((s : ℕ) → s < 8 → is_marked mask s ≡ goes_back skip x s)
    → Goes old now → Goes now next → Changes (put_over (is_marked mask) h.at h.block) now next → IsPutBack at tear pick x all rest old now → IsPutBack at tear pick y all hs old next
unfolding put_back
one_back at tear pick x y mask skip all rest hs h old now next split is count marked first second c g =
    let number : y ≡ number_after x (looked (skipped at tear h.at) 8) = count ∙ ap (λ (k : ℕ). number_after x (looked k 8)) is in
    let marks : (s : ℕ) → s < 8 → is_marked mask s ≡ goes_back (skipped at tear h.at) x s = λ s ls. marked s ls ∙ ap (λ (k : ℕ). goes_back k x s) is in
    let goes = goes_back (skipped at tear h.at) x in
    record {
      change = λ p. put_over goes h.at h.block (g.change p);
      changes = changes_both g.change (put_over goes h.at h.block) old now next first second g.changes (changes_marks (is_marked mask) goes h.at h.block now next marks c);
      same = λ p.
          ap (λ (z : ℕ). put_back at tear z hs (put_over goes h.at h.block (g.change p))) number
          ∙ ap (λ (l : List Held). put_back at tear x l (g.change p)) (sym split)
          ∙ g.same p;
    }

pub all_back : (at tear pick x : ℕ) (all rest : List Held) (old now : State) → rest ≡ [] → IsPutBack at tear pick x all rest old now → Changes (put_back at tear pick all) old now
unfolding put_back
all_back at tear pick x all rest old now done g =
    changes_as g.change (put_back at tear pick all) old now
    (λ p b s ls. ap (λ (f : Parts). f b s) (ap (λ (l : List Held). put_back at tear x l (g.change p)) (sym done) ∙ g.same p))
    g.changes
