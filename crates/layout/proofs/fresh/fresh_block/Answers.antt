-- Which branch is taken says which block of the fresh image it is.
use Rattle.std.proofs.Common.{◌≡◌, ◌+◌, ◌-◌, ◌/◌, ◌%◌, sym, ap, ap₂, ◌∙◌}
use Rattle.model.specs.Layout.{place_in_group, group_of_address}
use Rattle.layout.specs.Fresh.{put_u32, put_u16, root_record_bytes, zero_block, group_bytes}
use Rattle.layout.proofs.FreshCases.{fresh_super, fresh_first_maps, fresh_maps, fresh_record, fresh_slots, fresh_zeroes}
use Rattle.std.proofs.lemmas.Bool.{cases_eq}
use Rattle.std.proofs.Common.{inl, inr}
use Rattle.layout.proofs.fresh.fresh_block.Goals as goal

pub returns-then-address-eq0 : goal.returns-then-address-eq0
returns-then-address-eq0 c = c.write_super.ensures ∙ sym (fresh_super c.args.geometry.now c.args.address c.if-address-eq0.true)

pub returns-then-address-blocks_a_group-eq0 : goal.returns-then-address-blocks_a_group-eq0
returns-then-address-blocks_a_group-eq0 c =
    let geo = c.args.geometry.now in
    let first : place_in_group geo c.args.address ≡ 0 = ap (λ n. (c.args.address - 1) % n) (sym c.blocks_a_group-2.ensures.count) ∙ c.if-address-blocks_a_group-eq0.true in
    let group : (c.args.address - 1) / c.blocks_a_group.result ≡ group_of_address geo c.args.address = ap (λ n. (c.args.address - 1) / n) c.blocks_a_group.ensures.count in
    elim (cases_eq ((c.args.address - 1) / c.blocks_a_group.result) 0) [
      | inl zero ↦ c.write_maps.ensures.first zero ∙ sym (fresh_first_maps geo c.args.address c.if-address-eq0.false first (sym group ∙ zero))
      | inr other ↦ c.write_maps.ensures.rest other ∙ ap group_bytes group ∙ sym (fresh_maps geo c.args.address c.if-address-eq0.false first (λ e. other (group ∙ e)))
    ]

pub returns-then-address-root : goal.returns-then-address-root
unfolding root_record_bytes
returns-then-address-root c =
    let geo = c.args.geometry.now in
    c.write_root_record.ensures
    ∙ ap₂ (λ byte first. put_u32 (byte + 8) first (put_u32 (byte + 4) 1024 (put_u16 (byte + 2) 2 (put_u16 byte 2 zero_block)))) c.inode_place-root.ensures.byte c.data_start.ensures.address
    ∙ sym (fresh_record geo c.args.address c.if-address-eq0.false
    (λ e. c.if-address-blocks_a_group-eq0.false (ap (λ n. (c.args.address - 1) % n) c.blocks_a_group-2.ensures.count ∙ e))
    (c.if-address-root.true ∙ c.inode_place-root.ensures.address))

pub returns-then-address-data_start : goal.returns-then-address-data_start
returns-then-address-data_start c =
    let geo = c.args.geometry.now in
    c.write_root_slots.ensures
    ∙ sym (fresh_slots geo c.args.address c.if-address-eq0.false
    (λ e. c.if-address-blocks_a_group-eq0.false (ap (λ n. (c.args.address - 1) % n) c.blocks_a_group-2.ensures.count ∙ e))
    (λ e. c.if-address-root.false (e ∙ sym c.inode_place-root.ensures.address))
    (c.if-address-data_start.true ∙ c.data_start-else-address-root.ensures.address))

pub returns-else-address-data_start : goal.returns-else-address-data_start
returns-else-address-data_start c =
    let geo = c.args.geometry.now in
    sym (fresh_zeroes geo c.args.address c.if-address-eq0.false
    (λ e. c.if-address-blocks_a_group-eq0.false (ap (λ n. (c.args.address - 1) % n) c.blocks_a_group-2.ensures.count ∙ e))
    (λ e. c.if-address-root.false (e ∙ sym c.inode_place-root.ensures.address))
    (λ e. c.if-address-data_start.false (e ∙ sym c.data_start-else-address-root.ensures.address)))
