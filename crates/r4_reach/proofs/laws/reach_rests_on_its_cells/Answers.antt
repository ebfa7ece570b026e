use Rattle.r4_reach.proofs.Same.{reached_from, reached_to, root_from, root_to, written_from, written_to}
use Rattle.r4_reach.proofs.laws.reach_rests_on_its_cells.Goals as goal

pub returns-clause-written : goal.returns-clause-written
returns-clause-written g c d t u root other i h = (
  written_to d h.plain t u root other h.first h.second h.touched h.reached h.rises i,
  written_from d h.plain t u root other h.first h.second h.touched h.reached h.rises i,
)

pub returns-clause-read : goal.returns-clause-read
returns-clause-read g c d t u root other i h = (
  λ (r, w). (
    reached_to d h.plain t u root other h.first h.second h.touched h.reached h.rises i r,
    λ x. w
        (written_from d h.plain t u root other h.first h.second h.touched h.reached h.rises i x),
  ),
  λ (r, w). (
    reached_from d h.plain t u root other h.first h.second h.touched h.reached h.rises i r,
    λ x. w
        (written_to d h.plain t u root other h.first h.second h.touched h.reached h.rises i x),
  ),
)

pub returns-clause-root : goal.returns-clause-root
returns-clause-root g c d t u root other a h = (
  root_to d h.plain t u root other h.first h.second h.touched h.reached h.rises a,
  root_from d h.plain t u root
      other h.first h.second h.touched h.reached h.rises a,
)
