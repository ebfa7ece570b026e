-- The pieces of a twig of which no blocks go.
use Rattle.std.proofs.Common.{◌≡◌, ◌⊎◌, inl, inr, ℕ, ◌+◌, ◌-◌, ◌/◌, ◌<◌, ◌≤◌, Bool, true, false, cond, List, [], ◌∷◌, ◌++◌, take, drop, refl, sym, ap, subst, ◌∙◌, arith}
use Rattle.std.specs.Prelude.{Contains, ◌&&◌, nat_lt}
use Rattle.std.proofs.lemmas.Bool.{lt-ltb, le-ltb}
use Rattle.std.proofs.lemmas.List.{take-append-drop}
use Rattle.r4_base.specs.Key.{rank}
use Rattle.r4_base.specs.Tree.{Node}
use Rattle.r4_base.specs.Value.{Value}
use Rattle.r4_extent_demands.specs.r4_branch.Pieces.{Follow, IsSound, piece_end}
use Rattle.r4_extent_demands.specs.r4_branch.declared.piece.TwigPiece.{TwigPiece}
use Rattle.r4_extent_demands.specs.r4_graft.Splices.{halves, is_within, parted, parted_piece, place, spliced}
use Rattle.r4_extent_demands.proofs.r4_graft.Placed.{has_end}
use Rattle.r4_extent_demands.proofs.r4_patch.Members.{cases, here, later as later_in, none}
use Rattle.r4_extent_demands.specs.r4_reach.Needs.{cut_pieces, taken_up, without_gone}

sound_of : (from to : ℕ) (ps : List TwigPiece) (q : TwigPiece) → Follow from to ps → Contains ps q → IsSound q
sound_of from to [] q f m = absurd (none q m)
sound_of from to (r ∷ rs) q f m = elim (cases r q rs m) [ inl is ↦ subst IsSound (sym is) f.1 | inr more ↦ sound_of (piece_end r) to rs q f.2 more ]

-- no piece has the key within its blocks
parted_same : (k : ℕ) (ps : List TwigPiece) → ((p : TwigPiece) → Contains ps p → (piece_end p ≤ k) ⊎ (k ≤ rank p.key)) → parted k ps ≡ ps
parted_same k [] h = refl
parted_same k (p ∷ ps) h = (λ i. one (h p (here p ps)) i ++ parted_same k ps (λ q m. h q (later_in p q ps m)) i)
  where
    out_of : (piece_end p ≤ k) ⊎ (k ≤ rank p.key) → is_within k p ≡ false
    out_of (inl le) = right_false (nat_lt (rank p.key) k) (nat_lt k (piece_end p)) (le-ltb k (piece_end p) le)
      where
        right_false : (a b : Bool) → b ≡ false → (a && b) ≡ false
        right_false true b e = e
        right_false false b e = refl
    out_of (inr le) = ap (λ (t : Bool). t && nat_lt k (piece_end p)) (le-ltb (rank p.key) k le)

    one : (piece_end p ≤ k) ⊎ (k ≤ rank p.key) → parted_piece k p ≡ p ∷ []
    one side = ap (λ (t : Bool). cond t (halves ((k - rank p.key) / 4096) p) (p ∷ [])) (out_of side)

place_same : (a z : ℕ) (ps : List TwigPiece) → a ≤ z → ((p : TwigPiece) → Contains ps p → (rank p.key < a) ⊎ (z ≤ rank p.key)) → place z ps ≡ place a ps
place_same a z [] le h = refl
place_same a z (p ∷ ps) le h = elim (h p (here p ps)) [
  | inl low ↦ (λ i. cond (lt-ltb (rank p.key) z (omega (arith, low, le)) i) (1 + place z ps) 0)
      ∙ (ap suc_of (place_same a z ps le (λ q m. h q (later_in p q ps m))) ∙ (λ i. cond (sym (lt-ltb (rank p.key) a low) i) (1 + place a ps) 0))
  | inr high ↦ (λ i. cond (le-ltb (rank p.key) z high i) (1 + place z ps) 0) ∙ (λ i. cond (sym (le-ltb (rank p.key) a (omega (arith, high, le))) i) (1 + place a ps) 0)
]
  where
    suc_of : ℕ → ℕ
    suc_of n = 1 + n

taken_none : (c : Node Value) (n : ℕ) (ps : List TwigPiece) → taken_up c (take n ps) (take (n - n) (drop n ps)) ≡ []
taken_none c n ps = ap (λ m. taken_up c (take n ps) (take m (drop n ps))) (let e : n - n ≡ 0 = omega arith in e)

module _ (c : Node Value) (lo hi : ℕ) (ps : List TwigPiece) (f : Follow lo hi ps) (before after : ℕ) (longer : before ≤ after) (clear : (p : TwigPiece) → Contains ps p → (piece_end p ≤ before) ⊎ (after ≤ rank p.key)) where
  pub nothing_goes : cut_pieces (after, before) c ps ≡ ps
  nothing_goes =
      let one : parted after ps ≡ ps = parted_same after ps (λ p m. elim (clear p m) [ inl le ↦ inl (omega (arith, le, longer)) | inr ge ↦ inr ge ]) in
      let two : parted before (parted after ps) ≡ ps = ap (parted before) one ∙ parted_same before ps (λ p m. elim (clear p m) [ inl le ↦ inl le | inr ge ↦ inr (omega (arith, ge, longer)) ]) in
      let at : place after ps ≡ place before ps = place_same before after ps longer (λ p m. elim (clear p m) [ inl le ↦ (let h = has_end p (sound_of lo hi ps p f m) in inl (omega (arith, le, h))) | inr ge ↦ inr ge ]) in
      (λ i. spliced (place after (two i)) (place before (two i)) (taken_up c (take (place after (two i)) (two i)) (take (place before (two i) - place after (two i)) (drop (place after (two i)) (two i)))) (two i))
      ∙ ((λ i. spliced (at i) (place before ps) (taken_up c (take (at i) ps) (take (place before ps - at i) (drop (at i) ps))) ps)
      ∙ ((λ i. take (place before ps) ps ++ (taken_none c (place before ps) ps i ++ drop (place before ps) ps)) ∙ take-append-drop (place before ps) ps))

pub none_gone : (ps : List TwigPiece) → without_gone [] ps ≡ ps
none_gone [] = refl
none_gone (p ∷ ps) = ap (λ (qs : List TwigPiece). p ∷ qs) (none_gone ps)
