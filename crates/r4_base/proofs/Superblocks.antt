-- The superblocks: what is spelled is read, and what is read without a fault is lawful.
use Rattle.std.proofs.Common.{◌≡◌, ℕ, ◌+◌, ◌-◌, ◌^◌, ◌≤◌, Bool, true, false, not, ◌&&◌, cond, eqb, ltb, leb, List, [], ◌∷◌, ◌++◌, length, take, drop, replicate, Ok, Err, refl, sym, ap, ◌∙◌, arith}
use Rattle.std.specs.Prelude.{slice_range}
use Rattle.std.proofs.lemmas.Bool.{and_from, and_parts, eq-eqb, eqb-true, le-leb, leb-true, lt-ltb, ltb-true, not-true, not_from_false}
use Rattle.std.proofs.lemmas.List.{append_assoc, length-append, length-replicate, drop_at, take_at, replicate-append-replicate}
use Rattle.r4_base.specs.Bytes.{overwrite, fields_bytes, FieldsFit, HasFields, put_all}
use Rattle.r4_base.proofs.Numbers.{fields_read, overwrite_next, put_all-blank, length-fields_bytes}
use Rattle.r4_base.specs.Bitmap.{is_fixed}
use Rattle.r4_base.specs.declared.superblock.Master.{Master}
use Rattle.r4_base.specs.declared.superblock.Super40.{Super40}
use Rattle.r4_base.specs.declared.superblock.LayoutFault.TheVariants.{Magic, Profile, Height, Count}
use Rattle.r4_base.specs.Layout.{stands_at, master_magic, master_of, master_block, super_magic, profile_mark, super_fields, magic_is_good, profile_is_good, height_is_good, block_count_is_good, root_is_good, oid_is_good, counts_are_good, super_of, IsLawfulSuper, fields_before_magic, fields_behind_magic, super_block}

regrouped5 : (a b c d e : List ℕ) → (((a ++ b) ++ c) ++ d) ++ e ≡ a ++ (b ++ (c ++ (d ++ e)))
regrouped5 a b c d e = simp append_assoc

-- a write that leaves a gap before it, over what is still blank
overwrite_past : (at : ℕ) (front ys : List ℕ) (gap blank : ℕ) → length front + gap ≡ at → length ys ≤ blank → overwrite at ys (front ++ replicate (gap + blank) 0) ≡ ((front ++ replicate gap 0) ++ ys) ++ replicate (blank - length ys) 0
overwrite_past at front ys gap blank len le =
    let long : length (front ++ replicate gap 0) ≡ at = omega (arith, length-append front (replicate gap 0), length-replicate {A = ℕ} gap 0) in
    rw (← replicate-append-replicate {A = ℕ} gap blank 0, ← append_assoc front (replicate gap 0) (replicate blank 0)) (overwrite_next at (front ++ replicate gap 0) ys blank long le)

-- ---- the master superblock

-- the plugin id and the block size
abbrev pub master_numbers : List (ℕ × ℕ)
master_numbers = (2, 0) ∷ (2, 4096) ∷ []

-- the writes, one after the other
pub is_master_block : (m : Master) → length m.label ≡ 16 → overwrite 36 m.label (put_all master_numbers 16 (overwrite 0 master_magic (replicate 4096 0))) ≡ master_block m
unfolding master_block
is_master_block m len =
    let numbers = fields_bytes master_numbers in
    let long : length (master_magic ++ numbers) + 16 ≡ 36 = omega (arith, length-append master_magic numbers, length-fields_bytes master_numbers) in
    let left : 4060 - length m.label ≡ 4044 = omega arith in
    let first = overwrite_next 0 [] master_magic 4096 refl (omega arith) in
    let second = put_all-blank master_numbers 16 master_magic 4080 refl (omega arith) in
    let third = overwrite_past 36 (master_magic ++ numbers) m.label 16 4060 long (omega arith) in
    ap (λ (xs : List ℕ). overwrite 36 m.label (put_all master_numbers 16 xs)) first
    ∙ ap (overwrite 36 m.label) (second ∙ sym (append_assoc master_magic numbers (replicate 4076 0)))
    ∙ third ∙ rw left (regrouped5 master_magic numbers (replicate 16 0) m.label (replicate 4044 0))

-- what is spelled is read
pub master_again : (m : Master) → length m.label ≡ 16 → master_of (master_block m) ≡ Ok m
unfolding master_of master_block
master_again m len =
    let numbers = fields_bytes master_numbers in
    let rest = replicate 16 0 ++ (m.label ++ replicate 4044 0) in
    let f = fields_read master_numbers master_magic rest 16 refl (omega arith, (omega arith, tt)) in
    let front = (master_magic ++ numbers) ++ replicate 16 0 in
    let long : length front ≡ 36 = omega (arith, length-append (master_magic ++ numbers) (replicate 16 0), length-append master_magic numbers, length-fields_bytes master_numbers, length-replicate {A = ℕ} 16 0) in
    let regrouped : master_magic ++ (numbers ++ rest) ≡ front ++ (m.label ++ replicate 4044 0) = simp append_assoc in
    let label : slice_range (master_magic ++ (numbers ++ rest)) 36 52 ≡ m.label = ap (λ (xs : List ℕ). take 16 (drop 36 xs)) regrouped ∙ rw (drop_at front (m.label ++ replicate 4044 0) 36 long) (take_at m.label (replicate 4044 0) 16 len) in
    rw (f.0, f.1.0, label) refl

pub length-master_block : (m : Master) → length m.label ≡ 16 → length (master_block m) ≡ 4096
unfolding master_block
length-master_block m len =
    let numbers = fields_bytes master_numbers in
    omega (arith, length-append numbers (replicate 16 0 ++ (m.label ++ replicate 4044 0)), length-fields_bytes master_numbers, length-append (replicate 16 0) (m.label ++ replicate 4044 0), length-append m.label (replicate 4044 0), length-replicate {A = ℕ} 16 0, length-replicate {A = ℕ} 4044 0)

-- ---- the format superblock

pub is_super_block : (s : Super40) → overwrite 88 profile_mark (put_all (fields_behind_magic s) 68 (overwrite 52 super_magic (put_all (fields_before_magic s) 0 (replicate 4096 0)))) ≡ super_block s
unfolding super_block
is_super_block s =
    let before = fields_bytes (fields_before_magic s) in
    let behind = fields_bytes (fields_behind_magic s) in
    let long : length before ≡ 52 = length-fields_bytes (fields_before_magic s) in
    let long' : length behind ≡ 20 = length-fields_bytes (fields_behind_magic s) in
    let front_long : length (before ++ super_magic) ≡ 68 = omega (arith, length-append before super_magic) in
    let mark_long : length ((before ++ super_magic) ++ behind) ≡ 88 = omega (arith, length-append (before ++ super_magic) behind) in
    let one : put_all (fields_before_magic s) 0 (replicate 4096 0) ≡ before ++ replicate 4044 0 = put_all-blank (fields_before_magic s) 0 [] 4096 refl (omega arith) in
    let two : overwrite 52 super_magic (before ++ replicate 4044 0) ≡ (before ++ super_magic) ++ replicate 4028 0 = overwrite_next 52 before super_magic 4044 long (omega arith) in
    let three : put_all (fields_behind_magic s) 68 ((before ++ super_magic) ++ replicate 4028 0) ≡ (before ++ super_magic) ++ (behind ++ replicate 4008 0) = put_all-blank (fields_behind_magic s) 68 (before ++ super_magic) 4028 front_long (omega arith) in
    let four : overwrite 88 profile_mark (((before ++ super_magic) ++ behind) ++ replicate 4008 0) ≡ (((before ++ super_magic) ++ behind) ++ profile_mark) ++ replicate 4000 0 = overwrite_next 88 ((before ++ super_magic) ++ behind) profile_mark 4008 mark_long (omega arith) in
    rw (one, two, three) (ap (overwrite 88 profile_mark) (sym (append_assoc (before ++ super_magic) behind (replicate 4008 0))) ∙ four ∙ simp append_assoc)

-- the numbers of a superblock fit their fields
pub record FitsSuper (s : Super40) : Type 0 where
  pub before : FieldsFit (fields_before_magic s)
  pub behind : FieldsFit (fields_behind_magic s)

pub fields_again : (s : Super40) → FitsSuper s → super_fields (super_block s) ≡ s
unfolding super_fields super_block
fields_again s fit =
    let before = fields_bytes (fields_before_magic s) in
    let behind = fields_bytes (fields_behind_magic s) in
    let last = profile_mark ++ replicate 4000 0 in
    let long : length before ≡ 52 = length-fields_bytes (fields_before_magic s) in
    let front_long : length (before ++ super_magic) ≡ 68 = omega (arith, length-append before super_magic) in
    let f : HasFields (fields_before_magic s) 0 (before ++ (super_magic ++ (behind ++ last))) = fields_read (fields_before_magic s) [] (super_magic ++ (behind ++ last)) 0 refl fit.before in
    let g' = fields_read (fields_behind_magic s) (before ++ super_magic) last 68 front_long fit.behind in
    let g : HasFields (fields_behind_magic s) 68 (before ++ (super_magic ++ (behind ++ last))) = rw (append_assoc before super_magic (behind ++ last)) at g' in
    rw (f.0, f.1.0, f.1.1.0, f.1.1.1.0, f.1.1.1.1.0, f.1.1.1.1.1.0, f.1.1.1.1.1.1.0, g.0, g.1.0, g.1.1.0, g.1.1.1.0, g.1.1.1.1.0) refl

pub magic_stands : (s : Super40) → stands_at 52 super_magic (super_block s) ≡ true
unfolding super_block
magic_stands s =
    let before = fields_bytes (fields_before_magic s) in
    let rest = super_magic ++ (fields_bytes (fields_behind_magic s) ++ (profile_mark ++ replicate 4000 0)) in
    rw (drop_at before rest 52 (length-fields_bytes (fields_before_magic s))) refl

pub mark_stands : (s : Super40) → stands_at 88 profile_mark (super_block s) ≡ true
unfolding super_block
mark_stands s =
    let before = fields_bytes (fields_before_magic s) in
    let behind = fields_bytes (fields_behind_magic s) in
    let last = profile_mark ++ replicate 4000 0 in
    let long : length before ≡ 52 = length-fields_bytes (fields_before_magic s) in
    let long' : length behind ≡ 20 = length-fields_bytes (fields_behind_magic s) in
    let mark_long : length ((before ++ super_magic) ++ behind) ≡ 88 = omega (arith, length-append (before ++ super_magic) behind, length-append before super_magic) in
    let regrouped : before ++ (super_magic ++ (behind ++ last)) ≡ ((before ++ super_magic) ++ behind) ++ last = simp append_assoc in
    rw (regrouped, drop_at ((before ++ super_magic) ++ behind) last 88 mark_long) refl

pub length-super_block : (s : Super40) → length (super_block s) ≡ 4096
unfolding super_block
length-super_block s =
    let before = fields_bytes (fields_before_magic s) in
    let behind = fields_bytes (fields_behind_magic s) in
    let last = profile_mark ++ replicate 4000 0 in
    omega (arith, length-append before (super_magic ++ (behind ++ last)), length-append behind last, length-fields_bytes (fields_before_magic s), length-fields_bytes (fields_behind_magic s), length-replicate {A = ℕ} 4000 0)

-- the tests that lawful fields pass
lawful_height : (n : ℕ) (s : Super40) → IsLawfulSuper n s → height_is_good s ≡ true
lawful_height n s l = rw (le-leb _ _ l.height.0, le-leb _ _ l.height.1) refl

lawful_blocks : (n : ℕ) (s : Super40) → IsLawfulSuper n s → block_count_is_good n s ≡ true
lawful_blocks n s l = rw (le-leb _ _ l.blocks.0, le-leb _ _ l.blocks.1, le-leb _ _ l.blocks.2) refl

lawful_root : (n : ℕ) (s : Super40) → IsLawfulSuper n s → root_is_good s ≡ true
lawful_root n s l = and_from (leb 22 s.root_block && ltb s.root_block s.block_count) (not (is_fixed s.block_count s.root_block)) (and_from _ _ (le-leb _ _ l.root.0) (lt-ltb _ _ l.root.1)) (not_from_false _ l.root_not_fixed)

lawful_oid : (n : ℕ) (s : Super40) → IsLawfulSuper n s → oid_is_good s ≡ true
lawful_oid n s l = rw (le-leb _ _ l.next_id.0, lt-ltb _ _ l.next_id.1) refl

lawful_counts : (n : ℕ) (s : Super40) → IsLawfulSuper n s → counts_are_good n s ≡ true
lawful_counts n s l = and_from (block_count_is_good n s && root_is_good s) (oid_is_good s) (and_from _ _ (lawful_blocks n s l) (lawful_root n s l)) (lawful_oid n s l)

-- a block with the magic, the mark and lawful fields is read
pub lawful_read : (n : ℕ) (s : Super40) (b : List ℕ) → super_fields b ≡ s → stands_at 52 super_magic b ≡ true → stands_at 88 profile_mark b ≡ true → IsLawfulSuper n s → super_of n b ≡ Ok s
unfolding super_of
lawful_read n s b e magic mark l =
    let profile : profile_is_good b s ≡ true = rw (mark, eq-eqb _ _ l.large_keys, eq-eqb _ _ l.nodes) refl in
    rw (e, magic, profile, lawful_height n s l, lawful_counts n s l) refl

-- what is spelled is read
pub super_again : (n : ℕ) (s : Super40) → FitsSuper s → IsLawfulSuper n s → super_of n (super_block s) ≡ Ok s
super_again n s fit l = lawful_read n s (super_block s) (fields_again s fit) (magic_stands s) (mark_stands s) l

-- ---- what is read without a fault

passed : (p q r t : Bool) (s s' : Super40) → cond (not p) (Err Magic) (cond (not q) (Err Profile) (cond (not r) (Err Height) (cond (not t) (Err Count) (Ok s)))) ≡ Ok s' → (p ≡ true) × (q ≡ true) × (r ≡ true) × (t ≡ true) × (s ≡ s')
passed false q r t s s' e = absurd cc
passed true false r t s s' e = absurd cc
passed true true false t s s' e = absurd cc
passed true true true false s s' e = absurd cc
passed true true true true s s' e = (refl, refl, refl, refl, (cc))

tests_lawful : (n : ℕ) (s : Super40) (mark : Bool) → (mark && eqb s.flags 1 && eqb s.node_pid 0) ≡ true → height_is_good s ≡ true → counts_are_good n s ≡ true → IsLawfulSuper n s
tests_lawful n s mark profile height counts =
    let p = and_parts (mark && eqb s.flags 1) (eqb s.node_pid 0) profile in
    let flags = and_parts mark (eqb s.flags 1) p.0 in
    let h = and_parts (leb 2 s.tree_height) (leb s.tree_height 8) height in
    let c = and_parts (block_count_is_good n s && root_is_good s) (oid_is_good s) counts in
    let c' = and_parts (block_count_is_good n s) (root_is_good s) c.0 in
    let b = and_parts (leb 64 s.block_count && leb s.block_count 1048576) (leb s.block_count n) c'.0 in
    let b' = and_parts (leb 64 s.block_count) (leb s.block_count 1048576) b.0 in
    let r = and_parts (leb 22 s.root_block && ltb s.root_block s.block_count) (not (is_fixed s.block_count s.root_block)) c'.1 in
    let r' = and_parts (leb 22 s.root_block) (ltb s.root_block s.block_count) r.0 in
    let o = and_parts (leb 65536 s.oid) (ltb s.oid (2 ^ 60)) c.1 in
    record {
      large_keys = eqb-true _ _ flags.1;
      nodes = eqb-true _ _ p.1;
      height = (leb-true _ _ h.0, leb-true _ _ h.1);
      blocks = (leb-true _ _ b'.0, leb-true _ _ b'.1, leb-true _ _ b.1);
      root = (leb-true _ _ r'.0, ltb-true _ _ r'.1);
      root_not_fixed = not-true _ r.1;
      next_id = (leb-true _ _ o.0, ltb-true _ _ o.1);
    }

-- a superblock that is not refused is lawful, and its fields are the block's
pub read_lawful : (n : ℕ) (b : List ℕ) (s : Super40) → super_of n b ≡ Ok s → IsLawfulSuper n s × (super_fields b ≡ s)
unfolding super_of
read_lawful n b s e =
    let f = super_fields b in
    let all = passed (magic_is_good b) (profile_is_good b f) (height_is_good f) (counts_are_good n f) f s e in
    let same : super_fields b ≡ s = all.4 in
    (rw (← same) (tests_lawful n f (stands_at 88 profile_mark b) all.1 all.2 all.3), same)
