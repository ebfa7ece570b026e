use Rattle.std.proofs.Common.{◌≡◌, subst, sym}
use Rattle.r4_buffer.specs.Reading.{reading_places}
use Rattle.r4_extent_reach.specs.r4_reaching.Answers.{IsSamePool}
use Rattle.r4_search.specs.OnDevice.{device_state}
use Rattle.r4_search.specs.Path.{root_name}
use Rattle.r4_search.specs.Pool.{PoolState}
use Rattle.r4_serve.specs.Serving.{parts_seen, read_over}
use Rattle.r4_serve.proofs.asking.reach_over.Goals as goal

pub returns : goal.returns
returns g c =
    let d = g.E.Device.state in
    let parts = c.args.parts.now in
    let q = c.reach-pool.result.0 in
    let p = parts_seen parts in
    let after = device_state (reading_places (root_name q.root) q.buffer.now q.blocks) (d q.dev) in
    let before : device_state (reading_places (root_name c.new-pool.result.root) c.new-pool.result.buffer.now
    c.new-pool.result.blocks) (d c.new-pool.result.dev) ≡ read_over p (d c.args.dev) =
    (λ i. device_state (reading_places (root_name (c.new-pool.ensures.root i)) (c.new-pool.ensures.buffer i)
    (c.new-pool.ensures.blocks i)) (d (c.new-pool.ensures.device i))) in
    let (met, same, is) = c.reach-pool.ensures in
    let from_before = subst (λ (s : PoolState). IsSamePool (d c.new-pool.result.dev) (d q.dev) s after parts.root met)
    before same in
    let of_device = subst (λ x. IsSamePool (d x) (d q.dev) (read_over p (d c.args.dev)) after parts.root met)
    c.new-pool.ensures.device from_before in
    record {
      after = after;
      met = met;
      same = subst (λ x. IsSamePool (d c.args.dev) (d x) (read_over p (d c.args.dev)) after parts.root met)
          (sym c.into_device.ensures) of_device;
      is = is;
    }
