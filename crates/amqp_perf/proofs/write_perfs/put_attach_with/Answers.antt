use Rattle.std.proofs.Common.{◌≡◌, ◌++◌, ◌∷◌, [], List, OnOk, subst, ◌∙◌}
use Rattle.amqp_model.specs.Data as d
use Rattle.amqp_model.specs.declared.descriptor.Descriptor.TheVariants as is
use Rattle.amqp_model.specs.Texts.{FieldText, described_text, spelt}
use Rattle.amqp_perf.proofs.write_perfs.put_attach_with.Goals as goal

pub returns-clause-ok : goal.returns-clause-ok
returns-clause-ok c =
    subst (λ (fs : List FieldText). OnOk c.put_described.result (c.put_described.new.out.items ≡ c.args.out.now.items ++ described_text is.Attach fs))
    (λ i. spelt (d.string (c.as_str.ensures i)) ∷ spelt (d.uint c.args.attach.now.handle) ∷ c.role.ensures i ∷ c.ubyte_unless.ensures i ∷ c.ubyte_unless-2.ensures i
    ∷ (c.spelt.ensures ∙ c.requires.source) i ∷ (c.spelt-2.ensures ∙ c.requires.target) i ∷ (c.spelt-3.ensures ∙ c.requires.unsettled) i
    ∷ c.flag.ensures i ∷ c.uint.ensures i ∷ c.ulong.ensures i
    ∷ (c.spelt-4.ensures ∙ c.requires.offered) i ∷ (c.spelt-5.ensures ∙ c.requires.desired) i ∷ c.map.ensures i ∷ [])
    c.put_described.ensures.ok
