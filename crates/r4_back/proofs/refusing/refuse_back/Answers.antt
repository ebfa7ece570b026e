use Rattle.std.proofs.Common.{◌∙◌, subst, sym}
use Rattle.r4_back.specs.Backing.{IsRefusedBack}
use Rattle.r4_back.proofs.refusing.refuse_back.Goals as goal

pub returns-in-Some : goal.returns-in-Some
returns-in-Some g c = λ out is. subst
    (λ b. IsRefusedBack c.args.core.now c.reopen_back.new.core c.args.script out b c.args.reply)
    (sym c.in-Some.is ∙ c.broken.ensures) (c.reopen_back.ensures out is)
