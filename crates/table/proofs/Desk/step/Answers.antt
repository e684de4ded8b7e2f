-- What the calls give together is a step of the bench (`stepped`), for the order that the bench asks. The lengths of the lists are those of their types.
use Rattle.std.proofs.Common.{◌≡◌, ◌∙◌, ap, subst, arith, rules, length}
use Rattle.asking.specs.declared.Order.{Order}
use Rattle.views.specs.Views.{listed}
use Rattle.noting.specs.Noting.{Noted}
use Rattle.worlds.specs.Desk.{Ready}
use Rattle.worlds.proofs.Laws.Turn.{stepped, order-heads}
use Rattle.table.specs.Acts.{Acted}
use Rattle.table.proofs.Desk.step.Goals as goal

pub act-d-requires : goal.act-d-requires
act-d-requires c =
    let d = c.args.self.now in
    let heads : length d.table ≡ 16 = search rules in
    let h = order-heads c.args.s.now d.table d.views d.formed c.args.out.now d.world in
    rw c.asked-o.ensures.0 (h.0, (omega (arith, h.0, heads), omega (arith, h.1, heads)))

pub returns : goal.returns
returns c =
    let s = c.args.s.now in
    let d = c.args.self.now in
    let out = c.args.out.now in
    let heads : length d.table ≡ 16 = search rules in
    let views-room : length d.views ≡ 1000 = search rules in
    let formed-room : length d.formed ≡ 1001 = search rules in
    let h = c.requires.1 in
    let ready : Ready d.table d.views d.formed s out d.world = record {
      heads = heads;
      views-room = views-room;
      views-in = h.views-in;
      formed-room = formed-room;
      formed-in = h.formed-in;
      starting = h.starting;
      within = h.within;
      ends = h.ends;
      room = h.room;
    } in
    let e = c.asked-o.ensures in
    let acted = subst (λ (o : Order). Acted d.table c.act-d.new.table o c.act-d.result) e.0 c.act-d.ensures in
    let noted = subst (λ (o : Order). Noted d.world o c.act-d.result d.formed out c.told-self.new.formed c.told-self.new.out c.told-self.result) e.0 c.told-self.ensures in
    let t = stepped s d.table d.views d.formed out d.world ready c.requires.0 (record {
      table = acted.table;
      reply = acted.reply;
      session = acted.session;
      views-is = e.1 ∙ ap (λ (o : Order). listed d.world.views o.what d.views) e.0;
      noted-is = noted;
      formed-long = c.told-self.auto.formed;
      out-long = c.told-self.auto.out;
    }) in (
      record { views-in = t.0.views-in; formed-in = t.0.formed-in; starting = t.0.starting; within = t.0.within; ends = t.0.ends; room = t.0.room },
      t.1,
    )
