use Rattle.r4_sets_rows.proofs.needed.all_is_asked.Goals as goal

pub returns : goal.returns
returns g = λ w c txn x d. (
  λ h. record {
    unsealed = h.unsealed;
    touched = h.touched;
    changed = h.changed;
    does = record {
      patch = h.patch;
      meets = h.meets;
      after = h.after;
      units = h.units;
      files = h.files;
      visible = h.visible;
      reads = h.reads;
      changes = h.changes;
      within = h.within;
      stays = h.stays;
      stats = h.stats;
      bodies = h.bodies;
    };
    own = h.own;
    reach = h.reach;
  },
  λ h. record {
    unsealed = h.unsealed;
    touched = h.touched;
    changed = h.changed;
    patch = h.does.patch;
    meets = h.does.meets;
    after = h.does.after;
    units = h.does.units;
    files = h.does.files;
    visible = h.does.visible;
    reads = h.does.reads;
    changes = h.does.changes;
    within = h.does.within;
    stays = h.does.stays;
    stats = h.does.stats;
    bodies = h.does.bodies;
    own = h.own;
    reach = h.reach;
  },
)
