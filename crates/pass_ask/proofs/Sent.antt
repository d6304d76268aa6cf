-- A log that was sent and followed.
use Rattle.std.proofs.Common.{◌≡◌, ℕ, ◌-◌, [], take, Result, Ok, refl, sym, ◌∙◌, ap, arith}
use Rattle.std.proofs.lemmas.List.{take-take}
use Rattle.pass_log.specs.Frames.{Frames}
use Rattle.pass_log.specs.Records.{image_in}
use Rattle.pass_standby.specs.Streams.{Told, followed, told_from}
use Rattle.pass_standby.proofs.Taking.{imaged, all_taken}
use Rattle.pass_ask.specs.Laws.{SentLaw}

pub sent_log : SentLaw
sent_log log text left frames held is image logged fit near sent has =
    let same : sent.frames ≡ frames = frames_is (sym sent.found ∙ is) in
    let text_is : text ≡ take frames.end log = sent.is ∙ ap (λ (f : Frames). take f.end log) same in
    let come : followed (told_from (record { list = []; end = 0 })) text ≡ told_from held = ap (followed (told_from (record { list = []; end = 0 }))) text_is ∙ all_taken log frames held is image logged fit near in
    let end : frames.end ≡ held.end = (imaged frames held (ap image_in (sym is) ∙ image)).end in
    let all : held.end - 0 ≡ held.end = omega arith in (
      has.image ∙ ap (λ (t : Told). Ok (record { list = t.list; end = t.at })) come ∙ sym image,
      ap (λ (t : Told). take t.at left) (sym come) ∙ has.area (record { list = []; end = 0 }) refl ∙ ap (λ (t : Told). take (t.at - 0) text) come ∙ ap (λ (n : ℕ). take n text) all
          ∙ ap (take held.end) (text_is ∙ ap (λ (n : ℕ). take n log) end) ∙ take-take held.end held.end log (omega arith),
    )
  where
    frames_is : ◌≡◌ {A = Result Frames ℕ} (Ok sent.frames) (Ok frames) → sent.frames ≡ frames
    frames_is both = cc
