use Rattle.std.proofs.Common.{◌∙◌, ◌∷◌}
use Rattle.serve_lock.specs.Handing.{after_items, gone}
use Rattle.serve_lock.proofs.Queues.{leaves_among, leaves_more, of_each}
use Rattle.serve_lock.proofs.locked.Locked.handle_items.Goals as goal

-- all that left the queue were handled, and are written
pub returns-in-Ok-write-clause-keeps : goal.returns-in-Ok-write-clause-keeps
returns-in-Ok-write-clause-keeps g c = λ t b fits holds.
    let left = gone c.args.items.now.items c.hold_items.new.items.items in
    let h = c.in-Ok.ensures in
    let w = c.in-Ok-write.ensures in
    of_each g.M.Machine.meaning c.args.self.now.router c.args.conn c.hold_items.new.self.router left t b (h.holds t b fits holds)
    (λ d is. w.keeps (after_items g.M.Machine.meaning c.args.self.now.router c.args.conn left t) d (h.fits t fits) is)

pub returns-in-Ok-write-clause-leaves : goal.returns-in-Ok-write-clause-leaves
returns-in-Ok-write-clause-leaves g c = λ t b fits holds.
    let left = gone c.args.items.now.items c.hold_items.new.items.items in
    let h = c.in-Ok.ensures in
    let w = c.in-Ok-write.ensures in
    leaves_more g.M.Machine.meaning c.args.self.now.router c.args.conn c.write.new.self.router c.args.items.now.items left c.hold_items.new.items.items t b h.queue
    (leaves_among g.M.Machine.meaning c.args.self.now.router c.args.conn c.hold_items.new.self.router c.write.new.self.router left t b (h.holds t b fits holds)
    (λ d is. w.leaves (after_items g.M.Machine.meaning c.args.self.now.router c.args.conn left t) d (h.fits t fits) is))

-- they can't be written
pub returns-in-Err-write-clause-leaves : goal.returns-in-Err-write-clause-leaves
returns-in-Err-write-clause-leaves g c = λ t b fits holds.
    let left = gone c.args.items.now.items c.hold_items.new.items.items in
    let h = c.in-Ok.ensures in
    let w = c.in-Err-write.ensures in
    leaves_more g.M.Machine.meaning c.args.self.now.router c.args.conn c.write.new.self.router c.args.items.now.items left c.hold_items.new.items.items t b h.queue
    (leaves_among g.M.Machine.meaning c.args.self.now.router c.args.conn c.hold_items.new.self.router c.write.new.self.router left t b (h.holds t b fits holds)
    (λ d is. w.leaves (after_items g.M.Machine.meaning c.args.self.now.router c.args.conn left t) d (h.fits t fits) is))

-- one was declined, and the others are written
pub returns-in-Ok-write-2-clause-leaves : goal.returns-in-Ok-write-2-clause-leaves
returns-in-Ok-write-2-clause-leaves g c = λ t b fits holds.
    let r = c.in-Err-NoConnection.ensures.fault in
    let w = c.in-Ok-write-2.ensures in
    leaves_more g.M.Machine.meaning c.args.self.now.router c.args.conn c.write-in-Err-NoConnection.new.self.router c.args.items.now.items r.items (r.item ∷ c.hold_items.new.items.items) t b r.queue
    (leaves_among g.M.Machine.meaning c.args.self.now.router c.args.conn c.hold_items.new.self.router c.write-in-Err-NoConnection.new.self.router r.items t b (r.held c.in-Err-NoConnection.field-0-is t b fits holds)
    (λ d is. w.leaves (after_items g.M.Machine.meaning c.args.self.now.router c.args.conn r.items t) d (r.declined c.in-Err-NoConnection.field-0-is t fits).0 is))

pub returns-in-Ok-write-2-clause-declined : goal.returns-in-Ok-write-2-clause-declined
returns-in-Ok-write-2-clause-declined g c = λ _.
    let r = c.in-Err-NoConnection.ensures.fault in
    let w = c.in-Ok-write-2.ensures in record {
      items = r.items;
      item = r.item;
      queue = r.queue;
      fits = λ t fits. w.fits (after_items g.M.Machine.meaning c.args.self.now.router c.args.conn r.items t) (r.declined c.in-Err-NoConnection.field-0-is t fits).0;
      declined = λ t fits. (r.declined c.in-Err-NoConnection.field-0-is t fits).1;
      keeps = λ t b fits holds. of_each g.M.Machine.meaning c.args.self.now.router c.args.conn c.hold_items.new.self.router r.items t b (r.held c.in-Err-NoConnection.field-0-is t b fits holds)
          (λ d is. w.keeps (after_items g.M.Machine.meaning c.args.self.now.router c.args.conn r.items t) d (r.declined c.in-Err-NoConnection.field-0-is t fits).0 is);
      full = λ t fits. w.full ∙ r.full t fits;
    }

-- one was declined, and the others can't be written
pub returns-in-Err-write-2-clause-leaves : goal.returns-in-Err-write-2-clause-leaves
returns-in-Err-write-2-clause-leaves g c = λ t b fits holds.
    let r = c.in-Err-NoConnection.ensures.fault in
    let w = c.in-Err-write-2.ensures in
    leaves_more g.M.Machine.meaning c.args.self.now.router c.args.conn c.write-in-Err-NoConnection.new.self.router c.args.items.now.items r.items (r.item ∷ c.hold_items.new.items.items) t b r.queue
    (leaves_among g.M.Machine.meaning c.args.self.now.router c.args.conn c.hold_items.new.self.router c.write-in-Err-NoConnection.new.self.router r.items t b (r.held c.in-Err-NoConnection.field-0-is t b fits holds)
    (λ d is. w.leaves (after_items g.M.Machine.meaning c.args.self.now.router c.args.conn r.items t) d (r.declined c.in-Err-NoConnection.field-0-is t fits).0 is))

-- one met another fault
pub returns-in-Err-clause-leaves : goal.returns-in-Err-clause-leaves
returns-in-Err-clause-leaves g c = λ t b fits holds.
    let r = c.in-Err.ensures.fault in
    leaves_more g.M.Machine.meaning c.args.self.now.router c.args.conn c.hold_items.new.self.router c.args.items.now.items r.items (r.item ∷ c.hold_items.new.items.items) t b r.queue
    (r.leaves t b fits holds)
