use Rattle.std.proofs.Common.{◌∙◌, ap}
use Rattle.std.specs.Option.{option_map}
use Rattle.std.specs.Arc.{arc_value}
use Rattle.r4_cache.proofs.Caching.{found}
use Rattle.r4_cache.proofs.cache.Cache.peek.Goals as goal

pub returns : goal.returns
returns c = rw (← c.self.view_is) (ap (option_map (λ a. arc_value a)) c.peek.ensures ∙ found _ _ c.self.invariant)
