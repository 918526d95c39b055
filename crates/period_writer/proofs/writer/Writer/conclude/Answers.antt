use Rattle.std.proofs.Common.{◌≡◌, ◌<◌, ◌≤◌, ◌+◌, ◌∙◌, ℕ, length, sym, ap, subst, arith}
use Rattle.std.proofs.lemmas.List.{length-append}
use Rattle.period_writer.specs.declared.course.Course.{Course}
use Rattle.period_writer.specs.Rings.{ring_bytes}
use Rattle.period_writer.specs.Courses.{IsCourse}
use Rattle.period_writer.specs.Writers.{WriterState, ring_size}
use Rattle.period_writer.proofs.CourseLaws.{course_next}
use Rattle.period_writer.proofs.writer.Writer.conclude.Goals as goal

pub invariant_of-self-2 : goal.invariant_of-self-2
invariant_of-self-2 c =
    let writer = c.self.inside in
    let is = c.self.invariant.0 in
    let room = c.self.invariant.1 in
    let ring = ring_bytes writer.geometry.periods writer.geometry.period in
    let free : length c.self.inside.runs.items < c.self.inside.records = subst (λ (writer : WriterState). length writer.runs < writer.records) (sym c.self.view_is) c.requires.room in
    let soon = subst (λ (writer : WriterState). c.args.turn.at ≤ writer.course.at + ring_size writer) (sym c.self.view_is) c.requires.soon in
    let high = subst (λ (writer : WriterState). writer.course.sound_end ≤ c.args.turn.start) (sym c.self.view_is) c.requires.high in
    let reach : c.args.turn.reach ≡ c.args.turn.at + ring = subst (λ (writer : WriterState). c.args.turn.reach ≡ c.args.turn.at + ring_size writer) (sym c.self.view_is)
    (c.requires.reach ∙ ap (λ (at : ℕ). at + ring_size c.args.self.now) (sym c.requires.at)) in
    let runs = ap length c.push_within_capacity.ensures.items ∙ length-append c.self.inside.runs.items _ in (
      record {
        list_size = is.list_size;
        number = is.number;
        sizes = is.sizes;
        apart = is.apart;
        beside = is.beside;
        some_records = is.some_records;
        few_records = is.few_records;
        few_runs = omega (arith, free, c.push_within_capacity.ensures.length);
        few_silences = (let few = is.few_silences in omega (arith, few, c.push_within_capacity.ensures.length, c.cut_silences.ensures.len, c.note_rest.ensures.len));
        course_is = subst (λ (runs : ℕ). IsCourse ring runs c.course_after-self-inside.result) (sym runs)
            (subst (λ (course : Course). IsCourse ring (length c.self.inside.runs.items + 1) course) (sym c.course_after-self-inside.ensures)
            (course_next ring (length c.self.inside.runs.items) writer.course c.args.turn.at c.args.facts.from c.args.turn.reach c.args.turn.start c.args.turn.sound _ is.course_is soon reach high c.requires.fits));
      },
      record {
        buffer_size = room.buffer_size;
        runs_room = (let runs = room.runs_room in omega (arith, runs, c.push_within_capacity.ensures.capacity));
        silences_room = (let silences = room.silences_room in omega (arith, silences, c.cut_silences.ensures.capacity, c.note_rest.ensures.capacity));
      },
    )
