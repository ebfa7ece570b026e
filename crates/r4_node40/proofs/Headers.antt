-- Headers with the same bytes say the same.
use Rattle.std.proofs.Common.{◌≡◌, ℕ, ◌+◌, ◌<◌, ◌≤◌, List, get_or, refl, sym, ap, ◌∙◌, arith}
use Rattle.r4_base.specs.Bytes.{number_at}
use Rattle.r4_base.specs.Node.{header, key_at, plugin_at, offset_at, item_flags_at, count_of, free_of}
use Rattle.r4_base.proofs.Numbers.{number_at-moved, number_at-same}
use Rattle.r4_node40.specs.Laid.{SameHeader, SameHead, room_of}

field_same : (n q : ℕ) (xs ys : List ℕ) (h g : ℕ) → q + n ≤ 38 → ((r : ℕ) → r < 38 → get_or xs (h + r) 0 ≡ get_or ys (g + r) 0) → number_at n (h + q) xs ≡ number_at n (g + q) ys
field_same n q xs ys h g fit same =
    number_at-moved n (h + q) (g + q) xs ys (λ r lt.
    let a : h + q + r ≡ h + (q + r) = omega arith in
    let b : g + q + r ≡ g + (q + r) = omega arith in
    ap (λ (p : ℕ). get_or xs p 0) a ∙ same (q + r) (omega arith) ∙ ap (λ (p : ℕ). get_or ys p 0) (sym b))

first_same : (n : ℕ) (xs ys : List ℕ) (h g : ℕ) → n ≤ 38 → ((r : ℕ) → r < 38 → get_or xs (h + r) 0 ≡ get_or ys (g + r) 0) → number_at n h xs ≡ number_at n g ys
first_same n xs ys h g fit same = number_at-moved n h g xs ys (λ r lt. same r (omega arith))

pub same_header : (xs ys : List ℕ) (k m : ℕ) → ((r : ℕ) → r < 38 → get_or xs (header k + r) 0 ≡ get_or ys (header m + r) 0) → SameHeader xs ys k m
unfolding key_at plugin_at offset_at item_flags_at
same_header xs ys k m same =
    let a = first_same 8 xs ys (header k) (header m) (omega arith) same in
    let b = field_same 8 8 xs ys (header k) (header m) (omega arith) same in
    let c = field_same 8 16 xs ys (header k) (header m) (omega arith) same in
    let d = field_same 8 24 xs ys (header k) (header m) (omega arith) same in
    record {
      key = rw (a, b, c, d) refl;
      plugin = field_same 2 36 xs ys (header k) (header m) (omega arith) same;
      offset = field_same 2 32 xs ys (header k) (header m) (omega arith) same;
      flags = field_same 2 34 xs ys (header k) (header m) (omega arith) same;
    }

-- the head, by its bytes before the count and behind the start of free space
pub same_head : (b new : List ℕ) → ((p : ℕ) → p < 2 → get_or new p 0 ≡ get_or b p 0) → ((p : ℕ) → 8 ≤ p → p < 28 → get_or new p 0 ≡ get_or b p 0) → SameHead b new
same_head b new low high =
    let field = λ (n at : ℕ) (from : 8 ≤ at) (to : at + n ≤ 28). number_at-same n at new b (λ k above below. high k (omega arith) (omega arith)) in
    record {
      plugin = number_at-same 2 0 new b (λ k above below. low k (omega arith));
      magic = field 4 8 (omega arith) (omega arith);
      mkfs_id = field 4 12 (omega arith) (omega arith);
      flush_id = field 8 16 (omega arith) (omega arith);
      flags = field 2 24 (omega arith) (omega arith);
      level = high 26 (omega arith) (omega arith);
      pad = high 27 (omega arith) (omega arith);
    }

pub room_same : (b new : List ℕ) → count_of new ≡ count_of b → free_of new ≡ free_of b → room_of new ≡ room_of b
unfolding room_of
room_same b new c f = rw (c, f) refl

pub heads_same : (a b c : List ℕ) → SameHead a b → SameHead b c → SameHead a c
heads_same a b c h g = record {
  plugin = g.plugin ∙ h.plugin;
  magic = g.magic ∙ h.magic;
  mkfs_id = g.mkfs_id ∙ h.mkfs_id;
  flush_id = g.flush_id ∙ h.flush_id;
  flags = g.flags ∙ h.flags;
  level = g.level ∙ h.level;
  pad = g.pad ∙ h.pad;
}
