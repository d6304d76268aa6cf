use Rattle.std.proofs.Common.{◌≡◌, ℕ, ◌+◌, ap, sym, ◌∙◌, append-nil, arith}
use Rattle.rand_pcg.specs.Lcg.{Lcg}
use Rattle.rand_pcg.specs.Pcg.{pcg32}
use Rattle.pass_trace.specs.declared.trace.Command.{Command}
use Rattle.pass_gen.specs.Generated.{drawn, word_at, line, child_at, command_of}
use Rattle.pass_gen.proofs.Mapped.{drawn_next}
use Rattle.pass_gen.proofs.draw.Goals as goal
use Rattle.pass_entry.proofs.Places.{range_more}

pub loop-place-init : goal.loop-place-init
unfolding drawn
loop-place-init c = (c.seed_from_u64-generator.ensures, sym (append-nil c.args.lines.now.items))

pub loop-place-preserved : goal.loop-place-preserved
loop-place-preserved c =
    let number = c.args.number in
    let place = c.loop-place.place in
    let drew = c.next_word-word.ensures in
    let word : c.next_word-word.result ≡ word_at number place = ap (λ (p : ℕ × Lcg). p.0) drew ∙ ap (λ (g : Lcg). (pcg32 g).0) c.loop-place.invariant.0 in
    let next : c.next_word-word.new.self ≡ drawn number (place + 1) = ap (λ (p : ℕ × Lcg). p.1) drew ∙ ap (λ (g : Lcg). (pcg32 g).1) c.loop-place.invariant.0 ∙ drawn_next number place in
    let is : c.line_of.result ≡ line (9 + place) (child_at place) (command_of place (word_at number place)) =
    c.line_of.ensures ∙ ap (λ (k : Command). line (9 + place) (child_at place) k) c.in_ok-command.ensures ∙ ap (λ (w : ℕ). line (9 + place) (child_at place) (command_of place w)) word in (
      next,
      range_more (λ i. line (9 + i) (child_at i) (command_of i (word_at number i))) 0 place place c.args.lines.now.items c.loop-place.lines.items c.push.new.self.items c.line_of.result (let e : 0 + place ≡ place = omega arith in e) c.loop-place.invariant.1 c.in_ok-push.ensures.items is,
    )
