use Rattle.std.proofs.Common.{[], ap, inl, inr, refl}
use Rattle.fuse_wire.specs.declared.bodies.Body.TheVariants as bodies
use Rattle.fuse_wire.specs.declared.errors.Errno.TheVariants as errors
use Rattle.fuse_wire.specs.Requests.{seen}
use Rattle.fuse_reader.specs.Said.{Refused, told}
use Rattle.fuse_reader.specs.Turns.{answer, events_of}
use Rattle.fuse_reader.proofs.SameLemmas.{on_err, on_ok, on_ok_both}
use Rattle.fuse_reader.proofs.TurnLemmas.{attributes_turn, batch_forget_turn, forget_turn, init_turn, interrupt_turn, link_turn, list_turn, lookup_known, lookup_turn, open_directory_turn, open_turn, read_turn, shows, statistics_turn}
use Rattle.fuse_reader.proofs.answering.answer.Goals as goal

pub returns-in-Init-clause-turn : goal.returns-in-Init-clause-turn
returns-in-Init-clause-turn g c = on_ok c.agree.result c.agree.ensures (λ r honest is. init_turn _ _ _ _ _ _ _ is _ c.in-Init.offer (ap seen c.in-Init.is) r)

pub returns-in-Lookup-clause-turn : goal.returns-in-Lookup-clause-turn
returns-in-Lookup-clause-turn g c = on_ok_both c.look_up.result c.look_up.ensures.told c.look_up.ensures.known (λ r n honest is.
    lookup_turn _ _ _ _ _ _ _ is _ c.in-Lookup.name.now c.find-number.result c.look_up.new.nodes (ap seen c.in-Lookup.is) c.find-number.ensures r n)

pub returns-in-Lookup-clause-known : goal.returns-in-Lookup-clause-known
returns-in-Lookup-clause-known g c = on_err c.look_up.result c.look_up.ensures.refused (λ h is.
    lookup_known c.args.volume.now.frozen (g.D.Device.image c.args.device.now) c.args.volume.now.owner c.args.nodes.now c.args.head ⊥ [] is _ c.in-Lookup.name.now c.find-number.result c.look_up.new.nodes (ap seen c.in-Lookup.is) c.find-number.ensures h)

pub returns-in-Forget-clause-turn : goal.returns-in-Forget-clause-turn
returns-in-Forget-clause-turn g c = λ honest is. forget_turn _ _ _ _ _ _ _ is _ c.in-Forget.lookups _ (ap seen c.in-Forget.is) c.clear.ensures.items c.forget.ensures

pub returns-in-BatchForget-clause-turn : goal.returns-in-BatchForget-clause-turn
returns-in-BatchForget-clause-turn g c = λ honest is. batch_forget_turn _ _ _ _ _ _ _ is _ _ _ (ap seen c.in-BatchForget.is) c.clear-in-BatchForget.ensures.items c.forget_all.ensures.nodes

pub returns-in-GetAttributes-clause-turn : goal.returns-in-GetAttributes-clause-turn
returns-in-GetAttributes-clause-turn g c = on_ok c.tell_attributes.result c.tell_attributes.ensures (λ r honest is. attributes_turn _ _ _ _ _ _ _ is _ _ c.find-number.result (ap seen c.in-GetAttributes.is) c.find-number.ensures r)

pub returns-in-ReadSymbolicLink-clause-turn : goal.returns-in-ReadSymbolicLink-clause-turn
returns-in-ReadSymbolicLink-clause-turn g c = on_ok c.read_link.result c.read_link.ensures.told (λ r honest is. link_turn _ _ _ _ _ _ _ is _ c.find-number.result (ap seen c.in-ReadSymbolicLink.is) c.find-number.ensures (r honest is))

pub returns-in-Open-clause-turn : goal.returns-in-Open-clause-turn
returns-in-Open-clause-turn g c = on_ok c.open.result c.open.ensures (λ r honest is. open_turn _ _ _ _ _ _ _ is _ c.in-Open.flags c.find-number.result (ap seen c.in-Open.is) c.find-number.ensures r)

pub returns-in-OpenDirectory-clause-turn : goal.returns-in-OpenDirectory-clause-turn
returns-in-OpenDirectory-clause-turn g c = on_ok c.open_directory.result c.open_directory.ensures (λ r honest is. open_directory_turn _ _ _ _ _ _ _ is _ _ c.find-number.result (ap seen c.in-OpenDirectory.is) c.find-number.ensures r)

pub returns-in-Read-clause-turn : goal.returns-in-Read-clause-turn
returns-in-Read-clause-turn g c = on_ok c.read.result c.read.ensures.told (λ r honest is. read_turn _ _ _ _ _ _ _ is _ _ c.in-Read.offset c.in-Read.size c.find-number.result (ap seen c.in-Read.is) c.find-number.ensures (r honest is))

pub returns-in-ReadDirectory-clause-turn : goal.returns-in-ReadDirectory-clause-turn
returns-in-ReadDirectory-clause-turn g c = on_ok c.list.result c.list.ensures (λ r honest is. list_turn _ _ _ _ _ _ _ is _ _ c.in-ReadDirectory.offset c.in-ReadDirectory.size c.find-number.result (ap seen c.in-ReadDirectory.is) c.find-number.ensures r)

pub returns-in-Statistics-clause-turn : goal.returns-in-Statistics-clause-turn
returns-in-Statistics-clause-turn g c = on_ok c.tell.result c.tell.ensures (λ r honest is. statistics_turn _ _ _ _ _ _ _ is _ _ (ap seen c.in-Statistics.is) c.requires.room r)

pub returns-in-Interrupt-clause-turn : goal.returns-in-Interrupt-clause-turn
returns-in-Interrupt-clause-turn g c = λ honest is. interrupt_turn _ _ _ _ _ _ _ is _ _ (ap seen c.in-Interrupt.is) c.clear-in-Interrupt.ensures.items

pub returns-in-Release-clause-turn : goal.returns-in-Release-clause-turn
unfolding answer events_of
returns-in-Release-clause-turn g c = on_ok c.tell-in-Release.result c.tell-in-Release.ensures (λ r honest is. elim c.in-Release.is [
  | inl h ↦ shows _ _ _ _ _ _ _ _ _ (told bodies.Empty) (ap seen h.1) refl refl r
  | inr rest ↦ elim rest [
    | inl h ↦ shows _ _ _ _ _ _ _ _ _ (told bodies.Empty) (ap seen h.1) refl refl r
    | inr rest ↦ elim rest [
      | inl h ↦ shows _ _ _ _ _ _ _ _ _ (told bodies.Empty) (ap seen h.2) refl refl r
      | inr rest ↦ elim rest [
        | inl h ↦ shows _ _ _ _ _ _ _ _ _ (told bodies.Empty) (ap seen h.2) refl refl r
        | inr rest ↦ elim rest [
          | inl h ↦ shows _ _ _ _ _ _ _ _ _ (told bodies.Empty) (ap seen h) refl refl r
          | inr rest ↦ shows _ _ _ _ _ _ _ _ _ (told bodies.Empty) (ap seen rest) refl refl r
        ]
      ]
    ]
  ]
])

pub returns-in-Flush-clause-turn : goal.returns-in-Flush-clause-turn
unfolding answer events_of
returns-in-Flush-clause-turn g c = on_ok c.refuse.result c.refuse.ensures (λ r honest is. elim c.in-Flush.is [
  | inl h ↦ shows _ _ _ _ _ _ _ _ _ (Refused errors.NotImplemented) (ap seen h.1) refl refl r
  | inr rest ↦ elim rest [
    | inl h ↦ shows _ _ _ _ _ _ _ _ _ (Refused errors.NotImplemented) (ap seen h.3) refl refl r
    | inr rest ↦ shows _ _ _ _ _ _ _ _ _ (Refused errors.NotImplemented) (ap seen rest.1) refl refl r
  ]
])

pub returns-in-SetAttributes-clause-turn : goal.returns-in-SetAttributes-clause-turn
unfolding answer events_of
returns-in-SetAttributes-clause-turn g c = on_ok c.refuse-in-SetAttributes.result c.refuse-in-SetAttributes.ensures (λ r honest is. elim c.in-SetAttributes.is [
  | inl h ↦ shows _ _ _ _ _ _ _ _ _ (Refused errors.ReadOnly) (ap seen h.1) refl refl r
  | inr rest ↦ elim rest [
    | inl h ↦ shows _ _ _ _ _ _ _ _ _ (Refused errors.ReadOnly) (ap seen h.2) refl refl r
    | inr rest ↦ elim rest [
      | inl h ↦ shows _ _ _ _ _ _ _ _ _ (Refused errors.ReadOnly) (ap seen h.4) refl refl r
      | inr rest ↦ elim rest [
        | inl h ↦ shows _ _ _ _ _ _ _ _ _ (Refused errors.ReadOnly) (ap seen h.3) refl refl r
        | inr rest ↦ elim rest [
          | inl h ↦ shows _ _ _ _ _ _ _ _ _ (Refused errors.ReadOnly) (ap seen h.1) refl refl r
          | inr rest ↦ elim rest [
            | inl h ↦ shows _ _ _ _ _ _ _ _ _ (Refused errors.ReadOnly) (ap seen h.1) refl refl r
            | inr rest ↦ elim rest [
              | inl h ↦ shows _ _ _ _ _ _ _ _ _ (Refused errors.ReadOnly) (ap seen h.4) refl refl r
              | inr rest ↦ elim rest [
                | inl h ↦ shows _ _ _ _ _ _ _ _ _ (Refused errors.ReadOnly) (ap seen h.2) refl refl r
                | inr rest ↦ elim rest [
                  | inl h ↦ shows _ _ _ _ _ _ _ _ _ (Refused errors.ReadOnly) (ap seen h.3) refl refl r
                  | inr rest ↦ elim rest [
                    | inl h ↦ shows _ _ _ _ _ _ _ _ _ (Refused errors.ReadOnly) (ap seen h.4) refl refl r
                    | inr rest ↦ shows _ _ _ _ _ _ _ _ _ (Refused errors.ReadOnly) (ap seen rest.4) refl refl r
                  ]
                ]
              ]
            ]
          ]
        ]
      ]
    ]
  ]
])
