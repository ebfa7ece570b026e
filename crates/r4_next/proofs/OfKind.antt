-- What comes next in a script, by its kind.
use Rattle.std.proofs.Common.{◌≡◌, None, Option, Some, refl}
use Rattle.r4_content.specs.declared.command.Command.{Command}
use Rattle.r4_content.specs.declared.command.Command.TheVariants as asks
use Rattle.r4_history.specs.r4_trace.Job.{IsWork}
use Rattle.r4_next.specs.Following.{what_follows}
use Rattle.r4_next.specs.declared.following.Following.TheVariants as next

pub nothing_of : (o : Option Command) → what_follows o ≡ next.Nothing → o ≡ None
nothing_of None e = refl
nothing_of (Some asks.Begin) e = absurd (cc e)
nothing_of (Some asks.End) e = absurd (cc e)
nothing_of (Some asks.Commit) e = absurd (cc e)
nothing_of (Some x) e = absurd (cc e)

pub begin_of : (o : Option Command) → what_follows o ≡ next.Begin → o ≡ Some asks.Begin
begin_of None e = absurd (cc e)
begin_of (Some asks.Begin) e = refl
begin_of (Some asks.End) e = absurd (cc e)
begin_of (Some asks.Commit) e = absurd (cc e)
begin_of (Some x) e = absurd (cc e)

pub end_of : (o : Option Command) → what_follows o ≡ next.End → o ≡ Some asks.End
end_of None e = absurd (cc e)
end_of (Some asks.Begin) e = absurd (cc e)
end_of (Some asks.End) e = refl
end_of (Some asks.Commit) e = absurd (cc e)
end_of (Some x) e = absurd (cc e)

pub commit_of : (o : Option Command) → what_follows o ≡ next.Commit → o ≡ Some asks.Commit
commit_of None e = absurd (cc e)
commit_of (Some asks.Begin) e = absurd (cc e)
commit_of (Some asks.End) e = absurd (cc e)
commit_of (Some asks.Commit) e = refl
commit_of (Some x) e = absurd (cc e)

pub work_of : (o : Option Command) → what_follows o ≡ next.Work → (x : Command) × (o ≡ Some x) × IsWork x
work_of None e = absurd (cc e)
work_of (Some asks.Begin) e = absurd (cc e)
work_of (Some asks.End) e = absurd (cc e)
work_of (Some asks.Commit) e = absurd (cc e)
work_of (Some x) e = (x, refl, tt)

-- what is not nothing
pub some_of : (o : Option Command) → (what_follows o ≡ next.Nothing → ⊥) → (x : Command) × (o ≡ Some x)
some_of None not = absurd (not refl)
some_of (Some x) not = (x, refl)
