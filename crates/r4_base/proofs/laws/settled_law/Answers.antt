use Rattle.std.proofs.Common.{◌≡◌, ℕ, [], inl, refl, sym, subst, ◌∙◌, ap, arith, List}
use Rattle.std.specs.Prelude.{Contains}
use Rattle.r4_base.specs.Image.{put_pairs}
use Rattle.r4_base.specs.Log.{header_of, footer_of}
use Rattle.r4_base.specs.Chain.{Txn, chain_pairs, kept_blocks}
use Rattle.r4_base.proofs.Members.{no_member}
use Rattle.r4_base.proofs.Logs.{one_log}
use Rattle.r4_base.proofs.Frame.{settled_at, framed}
use Rattle.r4_base.proofs.laws.settled_law.Goals as goal

pub returns : goal.returns
returns c = record {
  one = λ n image settled other s t. s.is ∙ ap (λ (l : List Txn). put_pairs (chain_pairs l) image) (one_log n image s.chain t.chain s.has t.has) ∙ sym t.is;
  homes = λ n b image chain has lt. settled_at image n chain b has lt;
  again = λ n image equal. record { chain = []; has = record { txns = equal; few = omega arith; apart = λ b o k. no_member b o }; is = refl };
  free = λ n b image other chain has agrees no19 no20 needless. framed n (λ (c : ℕ). c ≡ b) image other chain has agrees
      (λ c is kept. needless (subst (Contains (kept_blocks chain)) is kept))
      (ap (λ (x : List ℕ). (header_of x).last) (agrees.others 19 (λ is. no19 (sym is)))) (ap (λ (x : List ℕ). (footer_of x).last) (agrees.others 20 (λ is. no20 (sym is)))) (λ (c : ℕ). c ≡ b) (λ c w. inl w);
}
