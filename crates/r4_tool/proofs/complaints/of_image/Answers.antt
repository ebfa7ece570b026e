use Rattle.std.proofs.Common.{◌++◌, codes, inl, inr, string_bytes, subst, List, ℕ}
use Rattle.std.specs.Io.{StartsWith}
use Rattle.std.proofs.lemmas.Result.{IfOk-weaker}
use Rattle.r4_tool.proofs.complaints.of_image.Goals as goal

pub returns-in-Some-clause-named : goal.returns-in-Some-clause-named
returns-in-Some-clause-named c =
    IfOk-weaker _ _ _ (λ s starts. inl (c.in-Some.block.now, c.in-Some.ensures.named, starts)) c.of_block.ensures

pub returns-in-Some-clause-told : goal.returns-in-Some-clause-told
returns-in-Some-clause-told c block word small is last =
    IfOk-weaker _ _ _ (λ s starts.
    subst (λ (b : List ℕ). StartsWith (string_bytes s) (codes "block " ++ (b ++ codes ": ")))
    (c.in-Some.ensures.told block word small is last) starts)
    c.of_block.ensures

pub returns-in-None-clause-named : goal.returns-in-None-clause-named
returns-in-None-clause-named c = IfOk-weaker _ _ _ (λ s e. inr e) c.format.ensures.ok

pub returns-in-None-clause-told : goal.returns-in-None-clause-told
returns-in-None-clause-told c block word small is last = absurd (c.in-None.ensures.told block word small is last)
