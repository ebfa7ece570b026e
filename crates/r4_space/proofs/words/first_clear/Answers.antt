use Rattle.std.proofs.Common.{◌≡◌, ℕ, ◌+◌, ◌*◌, ◌/◌, ◌%◌, List, arith, sym}
use Rattle.std.specs.Prelude.{Option, is_some, false, MatchOption}
use Rattle.r4_space.specs.Words.{is_set, IsFull, IsFirstClear}
use Rattle.r4_space.proofs.WordLaws.{at_none, none_after, found_after}
use Rattle.r4_space.proofs.words.first_clear.Goals as goal

-- what a search in the first word shows where it finds nothing
here : (words : List ℕ) (from : ℕ) (o : Option ℕ) → false ≡ is_some o
    → MatchOption o (IsFull (is_set words) (64 * (from / 64) + 64) (64 * (from / 64) + from % 64)) (IsFirstClear (is_set words) (64 * (from / 64) + 64) (64 * (from / 64) + from % 64))
    → IsFull (is_set words) (64 * (from / 64) + 64) (64 * (from / 64) + from % 64)
here words from o none found = at_none (IsFirstClear (is_set words) (64 * (from / 64) + 64) (64 * (from / 64) + from % 64)) o (sym none) found

pub returns-in-Some : goal.returns-in-Some
returns-in-Some c =
    found_after c.args.words.now c.args.full.now c.args.from c.in-Some.next c.clear_in.result c.requires.told (omega (arith, c.type_inv.words c.in-Some.next)) c.if-next-len.true (here c.args.words.now c.args.from c.clear_in-here.result c.if-is_some.ensures c.clear_in-here.ensures) c.in-Some.ensures c.clear_in.ensures

pub returns-in_default : goal.returns-in_default
returns-in_default c =
    none_after c.args.words.now c.args.full.now c.args.from c.requires.told (omega arith) (here c.args.words.now c.args.from c.clear_in-here.result c.if-is_some.ensures c.clear_in-here.ensures) (λ w ge lt. c.in-Some.ensures.before w ge (omega arith))

pub returns-in_default-2 : goal.returns-in_default-2
returns-in_default-2 c =
    none_after c.args.words.now c.args.full.now c.args.from c.requires.told (omega arith) (here c.args.words.now c.args.from c.clear_in-here.result c.if-is_some.ensures c.clear_in-here.ensures) (λ w ge lt. c.in_default.ensures w ge (let covers = c.requires.told.covers in omega arith))
