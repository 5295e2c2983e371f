-- `base64_rules::six` meets its contract: each arm has the number that the definition computes to at its byte. Assumes nothing.
use Rattle.std.proofs.Common.{◌≡◌, ℕ, ◌+◌, arith, ap}
use Rattle.base64_rules.specs.Base64.{sextet, six}
use Rattle.base64_rules.proofs.six.Goals as goal

arm : (k c : ℕ) → c + 256 ≡ k + 256 → six k ≡ six c
arm k c e =
    let same : k ≡ c = omega (arith, e) in
    ap six same

pub returns-in-256 : goal.returns-in-256
unfolding six sextet
returns-in-256 c = arm 0 _ c.in-256.is

pub returns-in-257 : goal.returns-in-257
unfolding six sextet
returns-in-257 c = arm 1 _ c.in-257.is

pub returns-in-258 : goal.returns-in-258
unfolding six sextet
returns-in-258 c = arm 2 _ c.in-258.is

pub returns-in-259 : goal.returns-in-259
unfolding six sextet
returns-in-259 c = arm 3 _ c.in-259.is

pub returns-in-260 : goal.returns-in-260
unfolding six sextet
returns-in-260 c = arm 4 _ c.in-260.is

pub returns-in-261 : goal.returns-in-261
unfolding six sextet
returns-in-261 c = arm 5 _ c.in-261.is

pub returns-in-262 : goal.returns-in-262
unfolding six sextet
returns-in-262 c = arm 6 _ c.in-262.is

pub returns-in-263 : goal.returns-in-263
unfolding six sextet
returns-in-263 c = arm 7 _ c.in-263.is

pub returns-in-264 : goal.returns-in-264
unfolding six sextet
returns-in-264 c = arm 8 _ c.in-264.is

pub returns-in-265 : goal.returns-in-265
unfolding six sextet
returns-in-265 c = arm 9 _ c.in-265.is

pub returns-in-266 : goal.returns-in-266
unfolding six sextet
returns-in-266 c = arm 10 _ c.in-266.is

pub returns-in-267 : goal.returns-in-267
unfolding six sextet
returns-in-267 c = arm 11 _ c.in-267.is

pub returns-in-268 : goal.returns-in-268
unfolding six sextet
returns-in-268 c = arm 12 _ c.in-268.is

pub returns-in-269 : goal.returns-in-269
unfolding six sextet
returns-in-269 c = arm 13 _ c.in-269.is

pub returns-in-270 : goal.returns-in-270
unfolding six sextet
returns-in-270 c = arm 14 _ c.in-270.is

pub returns-in-271 : goal.returns-in-271
unfolding six sextet
returns-in-271 c = arm 15 _ c.in-271.is

pub returns-in-272 : goal.returns-in-272
unfolding six sextet
returns-in-272 c = arm 16 _ c.in-272.is

pub returns-in-273 : goal.returns-in-273
unfolding six sextet
returns-in-273 c = arm 17 _ c.in-273.is

pub returns-in-274 : goal.returns-in-274
unfolding six sextet
returns-in-274 c = arm 18 _ c.in-274.is

pub returns-in-275 : goal.returns-in-275
unfolding six sextet
returns-in-275 c = arm 19 _ c.in-275.is

pub returns-in-276 : goal.returns-in-276
unfolding six sextet
returns-in-276 c = arm 20 _ c.in-276.is

pub returns-in-277 : goal.returns-in-277
unfolding six sextet
returns-in-277 c = arm 21 _ c.in-277.is

pub returns-in-278 : goal.returns-in-278
unfolding six sextet
returns-in-278 c = arm 22 _ c.in-278.is

pub returns-in-279 : goal.returns-in-279
unfolding six sextet
returns-in-279 c = arm 23 _ c.in-279.is

pub returns-in-280 : goal.returns-in-280
unfolding six sextet
returns-in-280 c = arm 24 _ c.in-280.is

pub returns-in-281 : goal.returns-in-281
unfolding six sextet
returns-in-281 c = arm 25 _ c.in-281.is

pub returns-in-282 : goal.returns-in-282
unfolding six sextet
returns-in-282 c = arm 26 _ c.in-282.is

pub returns-in-283 : goal.returns-in-283
unfolding six sextet
returns-in-283 c = arm 27 _ c.in-283.is

pub returns-in-284 : goal.returns-in-284
unfolding six sextet
returns-in-284 c = arm 28 _ c.in-284.is

pub returns-in-285 : goal.returns-in-285
unfolding six sextet
returns-in-285 c = arm 29 _ c.in-285.is

pub returns-in-286 : goal.returns-in-286
unfolding six sextet
returns-in-286 c = arm 30 _ c.in-286.is

pub returns-in-287 : goal.returns-in-287
unfolding six sextet
returns-in-287 c = arm 31 _ c.in-287.is

pub returns-in-288 : goal.returns-in-288
unfolding six sextet
returns-in-288 c = arm 32 _ c.in-288.is

pub returns-in-289 : goal.returns-in-289
unfolding six sextet
returns-in-289 c = arm 33 _ c.in-289.is

pub returns-in-290 : goal.returns-in-290
unfolding six sextet
returns-in-290 c = arm 34 _ c.in-290.is

pub returns-in-291 : goal.returns-in-291
unfolding six sextet
returns-in-291 c = arm 35 _ c.in-291.is

pub returns-in-292 : goal.returns-in-292
unfolding six sextet
returns-in-292 c = arm 36 _ c.in-292.is

pub returns-in-293 : goal.returns-in-293
unfolding six sextet
returns-in-293 c = arm 37 _ c.in-293.is

pub returns-in-294 : goal.returns-in-294
unfolding six sextet
returns-in-294 c = arm 38 _ c.in-294.is

pub returns-in-295 : goal.returns-in-295
unfolding six sextet
returns-in-295 c = arm 39 _ c.in-295.is

pub returns-in-296 : goal.returns-in-296
unfolding six sextet
returns-in-296 c = arm 40 _ c.in-296.is

pub returns-in-297 : goal.returns-in-297
unfolding six sextet
returns-in-297 c = arm 41 _ c.in-297.is

pub returns-in-298 : goal.returns-in-298
unfolding six sextet
returns-in-298 c = arm 42 _ c.in-298.is

pub returns-in-299 : goal.returns-in-299
unfolding six sextet
returns-in-299 c = arm 43 _ c.in-299.is

pub returns-in-300 : goal.returns-in-300
unfolding six sextet
returns-in-300 c = arm 44 _ c.in-300.is

pub returns-in-301 : goal.returns-in-301
unfolding six sextet
returns-in-301 c = arm 45 _ c.in-301.is

pub returns-in-302 : goal.returns-in-302
unfolding six sextet
returns-in-302 c = arm 46 _ c.in-302.is

pub returns-in-303 : goal.returns-in-303
unfolding six sextet
returns-in-303 c = arm 47 _ c.in-303.is

pub returns-in-304 : goal.returns-in-304
unfolding six sextet
returns-in-304 c = arm 48 _ c.in-304.is

pub returns-in-305 : goal.returns-in-305
unfolding six sextet
returns-in-305 c = arm 49 _ c.in-305.is

pub returns-in-306 : goal.returns-in-306
unfolding six sextet
returns-in-306 c = arm 50 _ c.in-306.is

pub returns-in-307 : goal.returns-in-307
unfolding six sextet
returns-in-307 c = arm 51 _ c.in-307.is

pub returns-in-308 : goal.returns-in-308
unfolding six sextet
returns-in-308 c = arm 52 _ c.in-308.is

pub returns-in-309 : goal.returns-in-309
unfolding six sextet
returns-in-309 c = arm 53 _ c.in-309.is

pub returns-in-310 : goal.returns-in-310
unfolding six sextet
returns-in-310 c = arm 54 _ c.in-310.is

pub returns-in-311 : goal.returns-in-311
unfolding six sextet
returns-in-311 c = arm 55 _ c.in-311.is

pub returns-in-312 : goal.returns-in-312
unfolding six sextet
returns-in-312 c = arm 56 _ c.in-312.is

pub returns-in-313 : goal.returns-in-313
unfolding six sextet
returns-in-313 c = arm 57 _ c.in-313.is

pub returns-in-314 : goal.returns-in-314
unfolding six sextet
returns-in-314 c = arm 58 _ c.in-314.is

pub returns-in-315 : goal.returns-in-315
unfolding six sextet
returns-in-315 c = arm 59 _ c.in-315.is

pub returns-in-316 : goal.returns-in-316
unfolding six sextet
returns-in-316 c = arm 60 _ c.in-316.is

pub returns-in-317 : goal.returns-in-317
unfolding six sextet
returns-in-317 c = arm 61 _ c.in-317.is

pub returns-in-318 : goal.returns-in-318
unfolding six sextet
returns-in-318 c = arm 62 _ c.in-318.is

pub returns-in-319 : goal.returns-in-319
unfolding six sextet
returns-in-319 c = arm 63 _ c.in-319.is

pub returns-in-320 : goal.returns-in-320
unfolding six sextet
returns-in-320 c = arm 64 _ c.in-320.is

pub returns-in-321 : goal.returns-in-321
unfolding six sextet
returns-in-321 c = arm 65 _ c.in-321.is

pub returns-in-322 : goal.returns-in-322
unfolding six sextet
returns-in-322 c = arm 66 _ c.in-322.is

pub returns-in-323 : goal.returns-in-323
unfolding six sextet
returns-in-323 c = arm 67 _ c.in-323.is

pub returns-in-324 : goal.returns-in-324
unfolding six sextet
returns-in-324 c = arm 68 _ c.in-324.is

pub returns-in-325 : goal.returns-in-325
unfolding six sextet
returns-in-325 c = arm 69 _ c.in-325.is

pub returns-in-326 : goal.returns-in-326
unfolding six sextet
returns-in-326 c = arm 70 _ c.in-326.is

pub returns-in-327 : goal.returns-in-327
unfolding six sextet
returns-in-327 c = arm 71 _ c.in-327.is

pub returns-in-328 : goal.returns-in-328
unfolding six sextet
returns-in-328 c = arm 72 _ c.in-328.is

pub returns-in-329 : goal.returns-in-329
unfolding six sextet
returns-in-329 c = arm 73 _ c.in-329.is

pub returns-in-330 : goal.returns-in-330
unfolding six sextet
returns-in-330 c = arm 74 _ c.in-330.is

pub returns-in-331 : goal.returns-in-331
unfolding six sextet
returns-in-331 c = arm 75 _ c.in-331.is

pub returns-in-332 : goal.returns-in-332
unfolding six sextet
returns-in-332 c = arm 76 _ c.in-332.is

pub returns-in-333 : goal.returns-in-333
unfolding six sextet
returns-in-333 c = arm 77 _ c.in-333.is

pub returns-in-334 : goal.returns-in-334
unfolding six sextet
returns-in-334 c = arm 78 _ c.in-334.is

pub returns-in-335 : goal.returns-in-335
unfolding six sextet
returns-in-335 c = arm 79 _ c.in-335.is

pub returns-in-336 : goal.returns-in-336
unfolding six sextet
returns-in-336 c = arm 80 _ c.in-336.is

pub returns-in-337 : goal.returns-in-337
unfolding six sextet
returns-in-337 c = arm 81 _ c.in-337.is

pub returns-in-338 : goal.returns-in-338
unfolding six sextet
returns-in-338 c = arm 82 _ c.in-338.is

pub returns-in-339 : goal.returns-in-339
unfolding six sextet
returns-in-339 c = arm 83 _ c.in-339.is

pub returns-in-340 : goal.returns-in-340
unfolding six sextet
returns-in-340 c = arm 84 _ c.in-340.is

pub returns-in-341 : goal.returns-in-341
unfolding six sextet
returns-in-341 c = arm 85 _ c.in-341.is

pub returns-in-342 : goal.returns-in-342
unfolding six sextet
returns-in-342 c = arm 86 _ c.in-342.is

pub returns-in-343 : goal.returns-in-343
unfolding six sextet
returns-in-343 c = arm 87 _ c.in-343.is

pub returns-in-344 : goal.returns-in-344
unfolding six sextet
returns-in-344 c = arm 88 _ c.in-344.is

pub returns-in-345 : goal.returns-in-345
unfolding six sextet
returns-in-345 c = arm 89 _ c.in-345.is

pub returns-in-346 : goal.returns-in-346
unfolding six sextet
returns-in-346 c = arm 90 _ c.in-346.is

pub returns-in-347 : goal.returns-in-347
unfolding six sextet
returns-in-347 c = arm 91 _ c.in-347.is

pub returns-in-348 : goal.returns-in-348
unfolding six sextet
returns-in-348 c = arm 92 _ c.in-348.is

pub returns-in-349 : goal.returns-in-349
unfolding six sextet
returns-in-349 c = arm 93 _ c.in-349.is

pub returns-in-350 : goal.returns-in-350
unfolding six sextet
returns-in-350 c = arm 94 _ c.in-350.is

pub returns-in-351 : goal.returns-in-351
unfolding six sextet
returns-in-351 c = arm 95 _ c.in-351.is

pub returns-in-352 : goal.returns-in-352
unfolding six sextet
returns-in-352 c = arm 96 _ c.in-352.is

pub returns-in-353 : goal.returns-in-353
unfolding six sextet
returns-in-353 c = arm 97 _ c.in-353.is

pub returns-in-354 : goal.returns-in-354
unfolding six sextet
returns-in-354 c = arm 98 _ c.in-354.is

pub returns-in-355 : goal.returns-in-355
unfolding six sextet
returns-in-355 c = arm 99 _ c.in-355.is

pub returns-in-356 : goal.returns-in-356
unfolding six sextet
returns-in-356 c = arm 100 _ c.in-356.is

pub returns-in-357 : goal.returns-in-357
unfolding six sextet
returns-in-357 c = arm 101 _ c.in-357.is

pub returns-in-358 : goal.returns-in-358
unfolding six sextet
returns-in-358 c = arm 102 _ c.in-358.is

pub returns-in-359 : goal.returns-in-359
unfolding six sextet
returns-in-359 c = arm 103 _ c.in-359.is

pub returns-in-360 : goal.returns-in-360
unfolding six sextet
returns-in-360 c = arm 104 _ c.in-360.is

pub returns-in-361 : goal.returns-in-361
unfolding six sextet
returns-in-361 c = arm 105 _ c.in-361.is

pub returns-in-362 : goal.returns-in-362
unfolding six sextet
returns-in-362 c = arm 106 _ c.in-362.is

pub returns-in-363 : goal.returns-in-363
unfolding six sextet
returns-in-363 c = arm 107 _ c.in-363.is

pub returns-in-364 : goal.returns-in-364
unfolding six sextet
returns-in-364 c = arm 108 _ c.in-364.is

pub returns-in-365 : goal.returns-in-365
unfolding six sextet
returns-in-365 c = arm 109 _ c.in-365.is

pub returns-in-366 : goal.returns-in-366
unfolding six sextet
returns-in-366 c = arm 110 _ c.in-366.is

pub returns-in-367 : goal.returns-in-367
unfolding six sextet
returns-in-367 c = arm 111 _ c.in-367.is

pub returns-in-368 : goal.returns-in-368
unfolding six sextet
returns-in-368 c = arm 112 _ c.in-368.is

pub returns-in-369 : goal.returns-in-369
unfolding six sextet
returns-in-369 c = arm 113 _ c.in-369.is

pub returns-in-370 : goal.returns-in-370
unfolding six sextet
returns-in-370 c = arm 114 _ c.in-370.is

pub returns-in-371 : goal.returns-in-371
unfolding six sextet
returns-in-371 c = arm 115 _ c.in-371.is

pub returns-in-372 : goal.returns-in-372
unfolding six sextet
returns-in-372 c = arm 116 _ c.in-372.is

pub returns-in-373 : goal.returns-in-373
unfolding six sextet
returns-in-373 c = arm 117 _ c.in-373.is

pub returns-in-374 : goal.returns-in-374
unfolding six sextet
returns-in-374 c = arm 118 _ c.in-374.is

pub returns-in-375 : goal.returns-in-375
unfolding six sextet
returns-in-375 c = arm 119 _ c.in-375.is

pub returns-in-376 : goal.returns-in-376
unfolding six sextet
returns-in-376 c = arm 120 _ c.in-376.is

pub returns-in-377 : goal.returns-in-377
unfolding six sextet
returns-in-377 c = arm 121 _ c.in-377.is

pub returns-in-378 : goal.returns-in-378
unfolding six sextet
returns-in-378 c = arm 122 _ c.in-378.is

pub returns-in-379 : goal.returns-in-379
unfolding six sextet
returns-in-379 c = arm 123 _ c.in-379.is

pub returns-in-380 : goal.returns-in-380
unfolding six sextet
returns-in-380 c = arm 124 _ c.in-380.is

pub returns-in-381 : goal.returns-in-381
unfolding six sextet
returns-in-381 c = arm 125 _ c.in-381.is

pub returns-in-382 : goal.returns-in-382
unfolding six sextet
returns-in-382 c = arm 126 _ c.in-382.is

pub returns-in-383 : goal.returns-in-383
unfolding six sextet
returns-in-383 c = arm 127 _ c.in-383.is

pub returns-in-384 : goal.returns-in-384
unfolding six sextet
returns-in-384 c = arm 128 _ c.in-384.is

pub returns-in-385 : goal.returns-in-385
unfolding six sextet
returns-in-385 c = arm 129 _ c.in-385.is

pub returns-in-386 : goal.returns-in-386
unfolding six sextet
returns-in-386 c = arm 130 _ c.in-386.is

pub returns-in-387 : goal.returns-in-387
unfolding six sextet
returns-in-387 c = arm 131 _ c.in-387.is

pub returns-in-388 : goal.returns-in-388
unfolding six sextet
returns-in-388 c = arm 132 _ c.in-388.is

pub returns-in-389 : goal.returns-in-389
unfolding six sextet
returns-in-389 c = arm 133 _ c.in-389.is

pub returns-in-390 : goal.returns-in-390
unfolding six sextet
returns-in-390 c = arm 134 _ c.in-390.is

pub returns-in-391 : goal.returns-in-391
unfolding six sextet
returns-in-391 c = arm 135 _ c.in-391.is

pub returns-in-392 : goal.returns-in-392
unfolding six sextet
returns-in-392 c = arm 136 _ c.in-392.is

pub returns-in-393 : goal.returns-in-393
unfolding six sextet
returns-in-393 c = arm 137 _ c.in-393.is

pub returns-in-394 : goal.returns-in-394
unfolding six sextet
returns-in-394 c = arm 138 _ c.in-394.is

pub returns-in-395 : goal.returns-in-395
unfolding six sextet
returns-in-395 c = arm 139 _ c.in-395.is

pub returns-in-396 : goal.returns-in-396
unfolding six sextet
returns-in-396 c = arm 140 _ c.in-396.is

pub returns-in-397 : goal.returns-in-397
unfolding six sextet
returns-in-397 c = arm 141 _ c.in-397.is

pub returns-in-398 : goal.returns-in-398
unfolding six sextet
returns-in-398 c = arm 142 _ c.in-398.is

pub returns-in-399 : goal.returns-in-399
unfolding six sextet
returns-in-399 c = arm 143 _ c.in-399.is

pub returns-in-400 : goal.returns-in-400
unfolding six sextet
returns-in-400 c = arm 144 _ c.in-400.is

pub returns-in-401 : goal.returns-in-401
unfolding six sextet
returns-in-401 c = arm 145 _ c.in-401.is

pub returns-in-402 : goal.returns-in-402
unfolding six sextet
returns-in-402 c = arm 146 _ c.in-402.is

pub returns-in-403 : goal.returns-in-403
unfolding six sextet
returns-in-403 c = arm 147 _ c.in-403.is

pub returns-in-404 : goal.returns-in-404
unfolding six sextet
returns-in-404 c = arm 148 _ c.in-404.is

pub returns-in-405 : goal.returns-in-405
unfolding six sextet
returns-in-405 c = arm 149 _ c.in-405.is

pub returns-in-406 : goal.returns-in-406
unfolding six sextet
returns-in-406 c = arm 150 _ c.in-406.is

pub returns-in-407 : goal.returns-in-407
unfolding six sextet
returns-in-407 c = arm 151 _ c.in-407.is

pub returns-in-408 : goal.returns-in-408
unfolding six sextet
returns-in-408 c = arm 152 _ c.in-408.is

pub returns-in-409 : goal.returns-in-409
unfolding six sextet
returns-in-409 c = arm 153 _ c.in-409.is

pub returns-in-410 : goal.returns-in-410
unfolding six sextet
returns-in-410 c = arm 154 _ c.in-410.is

pub returns-in-411 : goal.returns-in-411
unfolding six sextet
returns-in-411 c = arm 155 _ c.in-411.is

pub returns-in-412 : goal.returns-in-412
unfolding six sextet
returns-in-412 c = arm 156 _ c.in-412.is

pub returns-in-413 : goal.returns-in-413
unfolding six sextet
returns-in-413 c = arm 157 _ c.in-413.is

pub returns-in-414 : goal.returns-in-414
unfolding six sextet
returns-in-414 c = arm 158 _ c.in-414.is

pub returns-in-415 : goal.returns-in-415
unfolding six sextet
returns-in-415 c = arm 159 _ c.in-415.is

pub returns-in-416 : goal.returns-in-416
unfolding six sextet
returns-in-416 c = arm 160 _ c.in-416.is

pub returns-in-417 : goal.returns-in-417
unfolding six sextet
returns-in-417 c = arm 161 _ c.in-417.is

pub returns-in-418 : goal.returns-in-418
unfolding six sextet
returns-in-418 c = arm 162 _ c.in-418.is

pub returns-in-419 : goal.returns-in-419
unfolding six sextet
returns-in-419 c = arm 163 _ c.in-419.is

pub returns-in-420 : goal.returns-in-420
unfolding six sextet
returns-in-420 c = arm 164 _ c.in-420.is

pub returns-in-421 : goal.returns-in-421
unfolding six sextet
returns-in-421 c = arm 165 _ c.in-421.is

pub returns-in-422 : goal.returns-in-422
unfolding six sextet
returns-in-422 c = arm 166 _ c.in-422.is

pub returns-in-423 : goal.returns-in-423
unfolding six sextet
returns-in-423 c = arm 167 _ c.in-423.is

pub returns-in-424 : goal.returns-in-424
unfolding six sextet
returns-in-424 c = arm 168 _ c.in-424.is

pub returns-in-425 : goal.returns-in-425
unfolding six sextet
returns-in-425 c = arm 169 _ c.in-425.is

pub returns-in-426 : goal.returns-in-426
unfolding six sextet
returns-in-426 c = arm 170 _ c.in-426.is

pub returns-in-427 : goal.returns-in-427
unfolding six sextet
returns-in-427 c = arm 171 _ c.in-427.is

pub returns-in-428 : goal.returns-in-428
unfolding six sextet
returns-in-428 c = arm 172 _ c.in-428.is

pub returns-in-429 : goal.returns-in-429
unfolding six sextet
returns-in-429 c = arm 173 _ c.in-429.is

pub returns-in-430 : goal.returns-in-430
unfolding six sextet
returns-in-430 c = arm 174 _ c.in-430.is

pub returns-in-431 : goal.returns-in-431
unfolding six sextet
returns-in-431 c = arm 175 _ c.in-431.is

pub returns-in-432 : goal.returns-in-432
unfolding six sextet
returns-in-432 c = arm 176 _ c.in-432.is

pub returns-in-433 : goal.returns-in-433
unfolding six sextet
returns-in-433 c = arm 177 _ c.in-433.is

pub returns-in-434 : goal.returns-in-434
unfolding six sextet
returns-in-434 c = arm 178 _ c.in-434.is

pub returns-in-435 : goal.returns-in-435
unfolding six sextet
returns-in-435 c = arm 179 _ c.in-435.is

pub returns-in-436 : goal.returns-in-436
unfolding six sextet
returns-in-436 c = arm 180 _ c.in-436.is

pub returns-in-437 : goal.returns-in-437
unfolding six sextet
returns-in-437 c = arm 181 _ c.in-437.is

pub returns-in-438 : goal.returns-in-438
unfolding six sextet
returns-in-438 c = arm 182 _ c.in-438.is

pub returns-in-439 : goal.returns-in-439
unfolding six sextet
returns-in-439 c = arm 183 _ c.in-439.is

pub returns-in-440 : goal.returns-in-440
unfolding six sextet
returns-in-440 c = arm 184 _ c.in-440.is

pub returns-in-441 : goal.returns-in-441
unfolding six sextet
returns-in-441 c = arm 185 _ c.in-441.is

pub returns-in-442 : goal.returns-in-442
unfolding six sextet
returns-in-442 c = arm 186 _ c.in-442.is

pub returns-in-443 : goal.returns-in-443
unfolding six sextet
returns-in-443 c = arm 187 _ c.in-443.is

pub returns-in-444 : goal.returns-in-444
unfolding six sextet
returns-in-444 c = arm 188 _ c.in-444.is

pub returns-in-445 : goal.returns-in-445
unfolding six sextet
returns-in-445 c = arm 189 _ c.in-445.is

pub returns-in-446 : goal.returns-in-446
unfolding six sextet
returns-in-446 c = arm 190 _ c.in-446.is

pub returns-in-447 : goal.returns-in-447
unfolding six sextet
returns-in-447 c = arm 191 _ c.in-447.is

pub returns-in-448 : goal.returns-in-448
unfolding six sextet
returns-in-448 c = arm 192 _ c.in-448.is

pub returns-in-449 : goal.returns-in-449
unfolding six sextet
returns-in-449 c = arm 193 _ c.in-449.is

pub returns-in-450 : goal.returns-in-450
unfolding six sextet
returns-in-450 c = arm 194 _ c.in-450.is

pub returns-in-451 : goal.returns-in-451
unfolding six sextet
returns-in-451 c = arm 195 _ c.in-451.is

pub returns-in-452 : goal.returns-in-452
unfolding six sextet
returns-in-452 c = arm 196 _ c.in-452.is

pub returns-in-453 : goal.returns-in-453
unfolding six sextet
returns-in-453 c = arm 197 _ c.in-453.is

pub returns-in-454 : goal.returns-in-454
unfolding six sextet
returns-in-454 c = arm 198 _ c.in-454.is

pub returns-in-455 : goal.returns-in-455
unfolding six sextet
returns-in-455 c = arm 199 _ c.in-455.is

pub returns-in-456 : goal.returns-in-456
unfolding six sextet
returns-in-456 c = arm 200 _ c.in-456.is

pub returns-in-457 : goal.returns-in-457
unfolding six sextet
returns-in-457 c = arm 201 _ c.in-457.is

pub returns-in-458 : goal.returns-in-458
unfolding six sextet
returns-in-458 c = arm 202 _ c.in-458.is

pub returns-in-459 : goal.returns-in-459
unfolding six sextet
returns-in-459 c = arm 203 _ c.in-459.is

pub returns-in-460 : goal.returns-in-460
unfolding six sextet
returns-in-460 c = arm 204 _ c.in-460.is

pub returns-in-461 : goal.returns-in-461
unfolding six sextet
returns-in-461 c = arm 205 _ c.in-461.is

pub returns-in-462 : goal.returns-in-462
unfolding six sextet
returns-in-462 c = arm 206 _ c.in-462.is

pub returns-in-463 : goal.returns-in-463
unfolding six sextet
returns-in-463 c = arm 207 _ c.in-463.is

pub returns-in-464 : goal.returns-in-464
unfolding six sextet
returns-in-464 c = arm 208 _ c.in-464.is

pub returns-in-465 : goal.returns-in-465
unfolding six sextet
returns-in-465 c = arm 209 _ c.in-465.is

pub returns-in-466 : goal.returns-in-466
unfolding six sextet
returns-in-466 c = arm 210 _ c.in-466.is

pub returns-in-467 : goal.returns-in-467
unfolding six sextet
returns-in-467 c = arm 211 _ c.in-467.is

pub returns-in-468 : goal.returns-in-468
unfolding six sextet
returns-in-468 c = arm 212 _ c.in-468.is

pub returns-in-469 : goal.returns-in-469
unfolding six sextet
returns-in-469 c = arm 213 _ c.in-469.is

pub returns-in-470 : goal.returns-in-470
unfolding six sextet
returns-in-470 c = arm 214 _ c.in-470.is

pub returns-in-471 : goal.returns-in-471
unfolding six sextet
returns-in-471 c = arm 215 _ c.in-471.is

pub returns-in-472 : goal.returns-in-472
unfolding six sextet
returns-in-472 c = arm 216 _ c.in-472.is

pub returns-in-473 : goal.returns-in-473
unfolding six sextet
returns-in-473 c = arm 217 _ c.in-473.is

pub returns-in-474 : goal.returns-in-474
unfolding six sextet
returns-in-474 c = arm 218 _ c.in-474.is

pub returns-in-475 : goal.returns-in-475
unfolding six sextet
returns-in-475 c = arm 219 _ c.in-475.is

pub returns-in-476 : goal.returns-in-476
unfolding six sextet
returns-in-476 c = arm 220 _ c.in-476.is

pub returns-in-477 : goal.returns-in-477
unfolding six sextet
returns-in-477 c = arm 221 _ c.in-477.is

pub returns-in-478 : goal.returns-in-478
unfolding six sextet
returns-in-478 c = arm 222 _ c.in-478.is

pub returns-in-479 : goal.returns-in-479
unfolding six sextet
returns-in-479 c = arm 223 _ c.in-479.is

pub returns-in-480 : goal.returns-in-480
unfolding six sextet
returns-in-480 c = arm 224 _ c.in-480.is

pub returns-in-481 : goal.returns-in-481
unfolding six sextet
returns-in-481 c = arm 225 _ c.in-481.is

pub returns-in-482 : goal.returns-in-482
unfolding six sextet
returns-in-482 c = arm 226 _ c.in-482.is

pub returns-in-483 : goal.returns-in-483
unfolding six sextet
returns-in-483 c = arm 227 _ c.in-483.is

pub returns-in-484 : goal.returns-in-484
unfolding six sextet
returns-in-484 c = arm 228 _ c.in-484.is

pub returns-in-485 : goal.returns-in-485
unfolding six sextet
returns-in-485 c = arm 229 _ c.in-485.is

pub returns-in-486 : goal.returns-in-486
unfolding six sextet
returns-in-486 c = arm 230 _ c.in-486.is

pub returns-in-487 : goal.returns-in-487
unfolding six sextet
returns-in-487 c = arm 231 _ c.in-487.is

pub returns-in-488 : goal.returns-in-488
unfolding six sextet
returns-in-488 c = arm 232 _ c.in-488.is

pub returns-in-489 : goal.returns-in-489
unfolding six sextet
returns-in-489 c = arm 233 _ c.in-489.is

pub returns-in-490 : goal.returns-in-490
unfolding six sextet
returns-in-490 c = arm 234 _ c.in-490.is

pub returns-in-491 : goal.returns-in-491
unfolding six sextet
returns-in-491 c = arm 235 _ c.in-491.is

pub returns-in-492 : goal.returns-in-492
unfolding six sextet
returns-in-492 c = arm 236 _ c.in-492.is

pub returns-in-493 : goal.returns-in-493
unfolding six sextet
returns-in-493 c = arm 237 _ c.in-493.is

pub returns-in-494 : goal.returns-in-494
unfolding six sextet
returns-in-494 c = arm 238 _ c.in-494.is

pub returns-in-495 : goal.returns-in-495
unfolding six sextet
returns-in-495 c = arm 239 _ c.in-495.is

pub returns-in-496 : goal.returns-in-496
unfolding six sextet
returns-in-496 c = arm 240 _ c.in-496.is

pub returns-in-497 : goal.returns-in-497
unfolding six sextet
returns-in-497 c = arm 241 _ c.in-497.is

pub returns-in-498 : goal.returns-in-498
unfolding six sextet
returns-in-498 c = arm 242 _ c.in-498.is

pub returns-in-499 : goal.returns-in-499
unfolding six sextet
returns-in-499 c = arm 243 _ c.in-499.is

pub returns-in-500 : goal.returns-in-500
unfolding six sextet
returns-in-500 c = arm 244 _ c.in-500.is

pub returns-in-501 : goal.returns-in-501
unfolding six sextet
returns-in-501 c = arm 245 _ c.in-501.is

pub returns-in-502 : goal.returns-in-502
unfolding six sextet
returns-in-502 c = arm 246 _ c.in-502.is

pub returns-in-503 : goal.returns-in-503
unfolding six sextet
returns-in-503 c = arm 247 _ c.in-503.is

pub returns-in-504 : goal.returns-in-504
unfolding six sextet
returns-in-504 c = arm 248 _ c.in-504.is

pub returns-in-505 : goal.returns-in-505
unfolding six sextet
returns-in-505 c = arm 249 _ c.in-505.is

pub returns-in-506 : goal.returns-in-506
unfolding six sextet
returns-in-506 c = arm 250 _ c.in-506.is

pub returns-in-507 : goal.returns-in-507
unfolding six sextet
returns-in-507 c = arm 251 _ c.in-507.is

pub returns-in-508 : goal.returns-in-508
unfolding six sextet
returns-in-508 c = arm 252 _ c.in-508.is

pub returns-in-509 : goal.returns-in-509
unfolding six sextet
returns-in-509 c = arm 253 _ c.in-509.is

pub returns-in-510 : goal.returns-in-510
unfolding six sextet
returns-in-510 c = arm 254 _ c.in-510.is

pub returns-in_default : goal.returns-in_default
unfolding six sextet
returns-in_default c = arm 255 c.args.c (omega arith)
