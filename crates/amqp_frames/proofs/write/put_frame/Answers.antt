use Rattle.amqp_frames.proofs.write.put_frame.Goals as goal

pub returns-in-Some-clause-ok : goal.returns-in-Some-clause-ok
returns-in-Some-clause-ok c = rw (c.in-Some.ensures, ← c.as_slice.ensures.value) c.put_list.ensures.ok
